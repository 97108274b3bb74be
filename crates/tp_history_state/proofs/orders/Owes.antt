-- In every legal history the user owes its done of the current transaction if it was told to commit or to roll back since the
-- key was begun, and has not given it since; and where the transaction commits by the log, since the last crash.
use Rattle.tp_history_state.proofs.Vocabulary.{if◌then◌else◌, ◌≡◌, inl, inr, ℕ, Bool, true, false, refl, ap, sym, subst, ◌∙◌, arith, Option, Some, None, List, [], ◌∷◌, ◌++◌, ◌||◌, Addr, NodeKey, Report, Request, Indication, DialogueRecord, LogRec, Phase, TxEvent, TxOut, Who, Origin, Event, Entry, Out, Current, Digest, is_active, is_committing, Row, Transaction, Turn, turn, aaid_of, node_key, with_row, with_branch, with_arc_lost, all_done, complete_commit, complete_rollback, begin_rolling, order, ask_commit, leave, count_branch, end_branch, branch_left, retried, transacted, Move, move, followed, seen, remaining, is_over, is_leaving, passage, try_start, transact, turned, is_crash, takes_begin, begins, tells_order, is_done_request, phase_in, owes_in, digest, refusal, action, recovered_current, same_bool, IsLegal, decide, row_dead, shut_given_up, is_outcome_told, Turns, IsAsked, begun_by_record, prelude, asks_tell, out_tells, owes_agrees, tell_append, still_up, still_prepare, still_ask, told_append, told_played, every_turn, left_is, late_law, some_same, key_self, no_begin, bool_self, before_it, crash_next, phase_law, IsStepTo, IsMark, mark_law, recovered_is, started_again, whole_turn, started_next}
use Rattle.tp_history_state.proofs.orders.Told.{IsRaised, IsFrom, IsHeld, least, raised_event, raised_step, raised_start}
use Rattle.tp_history_state.proofs.lemmas.Tells.{ordering_tells, rolls_tell, completion_tells, unrolling_tells, leave_tells}
use Rattle.tp_history_state.proofs.passages.Shown.{is_early}

abbrev is_order_told : Indication → Bool
is_order_told Indication.Commit = true
is_order_told Indication.Rollback = true
is_order_told _ = false

abbrev tells : List TxOut → Bool
tells outs = asks_tell is_order_told outs

abbrev owes : Current → Bool
owes c = c.owes

-- ---- a turn: the user owes its done where it is told an order, and of an early transaction it owes none

abbrev IsCalm : Transaction → Type 0
IsCalm t = is_early t.phase ≡ true → t.owes ≡ false

abbrev IsOwing : Transaction → Turn → Type 0
IsOwing t a = IsCalm t → (a.next.owes ≡ (tells a.outs || t.owes)) × IsCalm a.next

owing_same : (t : Transaction) (a : Turn) → a.next.owes ≡ t.owes → a.next.phase ≡ t.phase → tells a.outs ≡ false → IsOwing t a
owing_same t a same phase none calm = (rw none same, λ h. same ∙ calm (ap is_early (sym phase) ∙ h))

owing_then : (t u v : Transaction) (xs ys : List TxOut) → (IsCalm t → (u.owes ≡ (tells xs || t.owes)) × IsCalm u) → (IsCalm u → (v.owes ≡ (tells ys || u.owes)) × IsCalm v) → IsCalm t → (v.owes ≡ (tells (xs ++ ys) || t.owes)) × IsCalm v
owing_then t u v xs ys one two calm = grind (arith, tell_append, tells)

row_owes : (t : Transaction) (q : ℕ) (f : Row → Row) → ((with_row t q f).owes ≡ t.owes) × ((with_row t q f).phase ≡ t.phase)
row_owes t q f = (grind arith, grind arith)

lost_owes : (t : Transaction) (q : ℕ) → ((with_arc_lost t q).owes ≡ t.owes) × ((with_arc_lost t q).phase ≡ t.phase)
lost_owes t q = (grind (arith, row_owes), grind (arith, row_owes))

owing_order : (t : Transaction) → IsOwing t (order t)
unfolding order
owing_order t calm = (sym (rw (ordering_tells is_order_told t) refl), λ h. absurd (cc (h)))

owing_rolls : (asked : Bool) (t : Transaction) → is_early t.phase ≡ true → IsOwing t (begin_rolling asked t)
unfolding begin_rolling
owing_rolls asked t early calm = grind (arith, rolls_tell)

-- a completion tells no order
commit_tells : (t : Transaction) → ((complete_commit t).next.owes ≡ t.owes) × (tells (complete_commit t).outs ≡ false) × (IsCalm t → IsCalm (complete_commit t).next)
unfolding complete_commit
commit_tells t = grind (arith, all_done, completion_tells, tells)

rollback_tells : (t : Transaction) → ((complete_rollback t).next.owes ≡ t.owes) × (tells (complete_rollback t).outs ≡ false) × (IsCalm t → IsCalm (complete_rollback t).next)
unfolding complete_rollback
rollback_tells t = grind (arith, tells, unrolling_tells)

owing_commit : (t : Transaction) → IsOwing t (complete_commit t)
owing_commit t calm = let k = commit_tells t in (rw (k.1) (k.0), k.2 calm)

owing_rollback : (t : Transaction) → IsOwing t (complete_rollback t)
owing_rollback t calm = let k = rollback_tells t in (rw (k.1) (k.0), k.2 calm)

owing_leave : (t : Transaction) → IsOwing t (leave t)
unfolding leave
owing_leave t calm = (rw (leave_tells is_order_told t) refl, λ h. absurd (cc (h)))

owing_asks : (t : Transaction) → IsOwing t (ask_commit t)
unfolding ask_commit
owing_asks t = owing_same t (ask_commit t) refl refl ((still_prepare t.rows).1 is_order_told)

owing_retried : (t : Transaction) → IsOwing t (turn (retried t) t)
owing_retried t calm = (go t.phase refl, calm)
  where
    asks : (b : Bool) → tells (if b then TxOut.Tell Indication.Commit ∷ [] else []) ≡ b
    asks true = refl
    asks false = refl

    same : (b : Bool) → b ≡ ((b || false) || b)
    same true = refl
    same false = refl

    none : (xs : List TxOut) → tells xs ≡ false → t.owes ≡ (tells xs || t.owes)
    none xs h = rw h refl

    up : tells (retried (record t { phase = Phase.Ready })) ≡ false
    up = grind arith

    go : (p : Phase) → t.phase ≡ p → t.owes ≡ (tells (retried (record t { phase = p })) || t.owes)
    go Phase.Ready i = none (retried (record t { phase = Phase.Ready })) up
    go Phase.Committing i = sym (ap (λ (b : Bool). b || t.owes) (tell_append is_order_told (if t.owes then TxOut.Tell Indication.Commit ∷ [] else []) _ ∙ rw (asks t.owes, (still_ask (aaid_of t.key) t.rows).1 is_order_told) refl) ∙ sym (same t.owes))
    go _ i = refl

owing_count : (t : Transaction) (q : ℕ) → IsOwing t (count_branch q t)
unfolding count_branch
owing_count t q = let k = row_owes t q (λ r. record r { branch = record r.branch { counted = true } }) in owing_same t (count_branch q t) k.0 k.1 refl

owing_end : (t : Transaction) (q : ℕ) (x : Report) → IsOwing t (end_branch q x t)
unfolding end_branch
owing_end t q x = let k = row_owes t q (λ r. record r { branch = record r.branch { ended = true; report = x } }) in owing_same t (end_branch q x t) k.0 k.1 (grind arith)

owing_left : (t : Transaction) (q : ℕ) → IsOwing t (branch_left q t)
unfolding branch_left
owing_left t q = let k = row_owes t q (λ r. record r { branch = record r.branch { left = true } }) in owing_same t (branch_left q t) k.0 k.1 refl

not_order : (i : Indication) → is_outcome_told i ≡ false → is_order_told i ≡ false
not_order i h = grind (arith, h)

active_early : (p : Phase) → is_active p ≡ true → is_early p ≡ true
active_early p h = rw h refl

owing_turns : (e : TxEvent) (s : Transaction) → (e ≡ TxEvent.User Request.Done → ⊥) → Turns e s IsOwing
owing_turns e s off = record {
  still = λ t. owing_same t (turn [] t) refl refl refl;
  first = λ t u outs a one two. owing_then t u a.next outs a.outs one two;
  chain = λ t a f one two none. owing_then t a.next (f a.next).next a.outs (f a.next).outs one two;
  tells = λ t i n. owing_same t (turn (TxOut.Tell i ∷ []) t) refl refl (rw (not_order i n) refl);
  notes_prepare = λ pr h. owing_same s (turn (TxOut.Tell Indication.Prepare ∷ []) (record s { told_prepare = true })) refl refl refl;
  notes_done = λ is. absurd (off is);
  notes_end = λ q is. owing_same s (turn (TxOut.Tell (Indication.DeferEnd q) ∷ []) (record s { up_ends = true })) refl refl refl;
  notes_rollback = λ ro h. owing_same s (turn [] (record s { superior_rolled = true })) refl refl refl;
  defers_end = λ q is. let k = row_owes s q (λ r. record r { ends = true }) in owing_same s (turn (TxOut.Carry q DialogueRecord.DeferEnd ∷ []) (with_row s q (λ r. record r { ends = true }))) k.0 k.1 refl;
  defers_grant = λ q is. owing_same s (turn (TxOut.Carry q DialogueRecord.DeferGrant ∷ []) s) refl refl refl;
  prepares = λ q. let k = row_owes s q (λ r. record r { branch = record r.branch { prepared = true } }) in owing_same s (turn (TxOut.Carry q DialogueRecord.Prepare ∷ []) (with_branch s q (λ b. record b { prepared = true }))) k.0 k.1 refl;
  asks = λ is act asked told. owing_asks s;
  asks_again = owing_retried s;
  decides = λ o is ready. owing_same s (decide o s) refl refl refl;
  aborts = λ q is. let k = lost_owes s q in owing_same s (turn (TxOut.Carry q DialogueRecord.UAbort ∷ TxOut.Close q ∷ []) (with_arc_lost s q)) k.0 k.1 refl;
  loses_arc = λ q gone. let k = lost_owes s q in owing_same s (turn [] (with_arc_lost s q)) k.0 k.1 refl;
  closes_left = λ q is. let k = row_owes s q row_dead in owing_same s (turn (TxOut.Close q ∷ []) (with_row s q row_dead)) k.0 k.1 refl;
  gives_up = λ q r is c found. let k = row_owes s q (λ w. record w { branch = record w.branch { given_up = true }; live = false; ends = false }) in owing_same s (shut_given_up q r s) k.0 k.1 (grind arith);
  counts = λ q is act row. owing_count s q;
  ends_done = λ q r is c row. owing_end s q r;
  ends_replied = λ b w r is found o. owing_end s w.branch.peer.node r;
  ends_rolled = λ q r is c row. owing_end s q r;
  leaves_below = λ q w t is left at act. owing_left t q;
  leaves_rolling = λ q w t is left at c. owing_end t q Report.None;
  votes = λ t act asked all under calm. (rw ((still_up t DialogueRecord.Ready refl).1 is_order_told) refl, λ h. calm (active_early t.phase act));
  orders_root = λ t act asked all root. owing_order t;
  orders_ready = λ ready is. owing_order s;
  rolls = λ t asked f ok. owing_rolls asked t ok;
  completes_commit = λ t c. owing_commit t;
  completes_rollback = λ t c. owing_rollback t;
  leaves = λ is act under asked all. owing_leave s;
}

-- ---- an event but the user's done

done_so : (e : Event) (c : Current) (f : TxEvent) → is_done_request e ≡ false → IsAsked e c f → f ≡ TxEvent.User Request.Done → ⊥
done_so e c f h1 h2 h3 = grind arith

left_owes : (t : Transaction) (u : Current) → remaining t ≡ Some u → (u.owes ≡ t.owes) × (u.phase ≡ t.phase)
left_owes t u i = grind arith

-- of an early transaction the user owes nothing
abbrev IsCalmNow : Current → Type 0
IsCalmNow c = is_early c.phase ≡ true → c.owes ≡ false

calm_left : (t : Transaction) (u : Current) → remaining t ≡ Some u → IsCalm t → IsCalmNow u
calm_left t u is calm h = let l = left_owes t u is in l.0 ∙ calm (ap is_early (sym l.1) ∙ h)

raised : (e : Event) (ok : Bool) → is_done_request e ≡ false → ((c : Current) (f : TxEvent) (t : Transaction) → IsAsked e c f → tells (transacted f t).outs ≡ true → ok ≡ true) → IsRaised is_order_told owes IsCalmNow e ok
raised e ok off may = record {
  fresh = λ k. (refl, λ h. refl);
  begun = λ who arcs c u child calm is. let l = left_owes (transacted (TxEvent.Begun (child ∷ [])) (seen who arcs c)).next u is in (l.0, calm_left (transacted (TxEvent.Begun (child ∷ [])) (seen who arcs c)).next u is calm);
  turn = λ who arcs c u f calm asked put is.
      let t : Transaction = seen who arcs c in
      let k = every_turn f t IsOwing (owing_turns f t (done_so e c f off asked)) put calm in
      ((left_owes (transacted f t).next u is).0 ∙ k.0, calm_left (transacted f t).next u is k.1);
  tells = λ who arcs c f calm asked put told. may c f (seen who arcs c) asked told;
  spoken = not_order;
}

-- ---- the user's done: it owes nothing, and no order is told

done_turn : (t : Transaction) → ((transacted (TxEvent.User Request.Done) t).next.owes ≡ false) × (tells (transacted (TxEvent.User Request.Done) t).outs ≡ false)
done_turn t = go t.phase
  where
    u : Transaction
    u = record t { owes = false }

    go : (p : Phase) → ((elim p as (λ _. Turn) [ Phase.Nil ↦ turn [] u | Phase.Active ↦ turn [] u | Phase.Ready ↦ turn [] u | Phase.Committing ↦ complete_commit u | Phase.Rolling ↦ complete_rollback u ]).next.owes ≡ false)
        × (tells (elim p as (λ _. Turn) [ Phase.Nil ↦ turn [] u | Phase.Active ↦ turn [] u | Phase.Ready ↦ turn [] u | Phase.Committing ↦ complete_commit u | Phase.Rolling ↦ complete_rollback u ]).outs ≡ false)
    go Phase.Committing = let k = commit_tells u in (k.0, k.1)
    go Phase.Rolling = let k = rollback_tells u in (k.0, k.1)
    go _ = (refl, refl)

done_key : (t : Transaction) → (transacted (TxEvent.User Request.Done) t).next.key ≡ t.key
unfolding complete_commit complete_rollback
done_key t = grind arith

record IsDone (who : Who) (s : Digest) (m : Move) : Type 0 where
  quiet : out_tells is_order_told m.outs ≡ false
  from : (u : Current) → m.next.current ≡ Some u → IsStepTo Bool false owes who s (λ b. false) u × (u.owes ≡ false)

done_event : (who : Who) (d : Digest) → IsDone who d (transact who (TxEvent.User Request.Done) d)
unfolding transact
done_event who d = go d.current refl
  where
    f : TxEvent
    f = TxEvent.User Request.Done

    first : (c : Current) → d.current ≡ Some c → IsDone who d (turned who f d c)
    first c i =
        let t : Transaction = seen who d.arcs c in
        let k = done_turn t in
        record {
          quiet = told_played is_order_told d t _ (transacted f t) (whole_turn f t) _ ∙ k.1;
          from = λ u is. let owed : u.owes ≡ false = (left_owes (transacted f t).next u is).0 ∙ k.0 in (inl (c, i, (left_is (transacted f t).next u is).0 ∙ done_key t, owed), owed);
        }

    over : (c : Current) → d.current ≡ Some c → (b : Bool) → IsDone who d (if b then followed (turned who f d c) (try_start who) else turned who f d c)
    over c i false = first c i
    over c i true =
        let a : Move = turned who f d c in
        let x : IsDone who d a = first c i in
        let y : IsHeld is_order_told owes IsCalmNow false who d a.next (try_start who a.next) = raised_start is_order_told owes IsCalmNow false Event.Crash (raised Event.Crash false refl (λ c f t asked told. absurd asked)) who d a.next (refl, least d.drawn, λ v is h. (x.from v is).1) in
        let none : out_tells is_order_told (try_start who a.next).outs ≡ false = never (out_tells is_order_told (try_start who a.next).outs) refl y.early in
        record { quiet = told_append is_order_told a.outs (try_start who a.next).outs ∙ rw (x.quiet, none) refl; from = λ u is. on u (y.from u is).0 x none }
      where
        never : (v : Bool) → out_tells is_order_told (try_start who (turned who f d c).next).outs ≡ v → (out_tells is_order_told (try_start who (turned who f d c).next).outs ≡ true → ((turned who f d c).next.drawn ≡ d.drawn) × (false ≡ true)) → out_tells is_order_told (try_start who (turned who f d c).next).outs ≡ false
        never true j k = absurd (let no : false ≡ true = (k j).1 in cc (no))
        never false j k = j

        on : (u : Current) → IsFrom is_order_told owes who d (turned who f d c).next (try_start who (turned who f d c).next) u → IsDone who d (turned who f d c) → out_tells is_order_told (try_start who (turned who f d c).next).outs ≡ false → IsStepTo Bool false owes who d (λ b. false) u × (u.owes ≡ false)
        on u (inr n) x none = (inr (n.0, n.1), n.1)
        on u (inl w) x none =
            let z = x.from w.0 w.1 in
            let same : u.owes ≡ false = w.3 ∙ ap (λ (b : Bool). b || w.0.owes) none ∙ z.1 in
            (elim z.0 [ inl v ↦ inl (v.0, v.1, w.2 ∙ v.2, same) | inr n ↦ inr ((n.0.0, w.2 ∙ n.0.1, n.0.2), same) ], same)

    go : (o : Option Current) → d.current ≡ o → IsDone who d (elim o as (λ _. Move) [ None ↦ move [] d | Some c ↦ started_next who (passage (is_leaving f) (seen who d.arcs c).phase (transacted f (seen who d.arcs c)).next.phase) (turned who f d c) ])
    go None i = record { quiet = refl; from = λ u is. absurd (let no : None ≡ Some u = sym i ∙ is in cc (no)) }
    go (Some c) i = over c i (is_over (passage (is_leaving f) (seen who d.arcs c).phase (transacted f (seen who d.arcs c)).next.phase))

-- ---- every legal history

done_is : (e : Event) → is_done_request e ≡ true → e ≡ Event.Do Request.Done
done_is (Event.Do Request.Done) h = refl
done_is _ h = absurd (cc (h))

-- an event that may tell an order: no Begin
abbrev may_order : Event → Bool
may_order e = elim (begun_by_record e) [ None ↦ true | Some v ↦ false ]

orders_so : (e : Event) (c : Current) (f : TxEvent) (t : Transaction) → IsAsked e c f → tells (transacted f t).outs ≡ true → may_order e ≡ true
orders_so e c f t h1 h2 = grind (arith, tells)

begin_orders : (o : Origin) (h : List Entry) (ev : Event) (rec : Option LogRec) (outs : List Out) (j : NodeKey) → takes_begin o (record { event = ev; rec = rec; outs = outs }) h ≡ Some j → may_order ev ≡ false
begin_orders o h ev rec outs j h1 = grind (arith, no_begin)

owed_again : (o : Option Current) (c : Current) → recovered_current o ≡ Some c → c.owes ≡ is_committing c.phase
owed_again = recovered_is Bool (λ c. is_committing c.phase) owes (λ k p bs u. refl)

calm_again : (c : Current) → c.owes ≡ is_committing c.phase → IsCalmNow c
calm_again c same h = grind arith

held_entry : (o : Origin) (up : Option Addr) (e : Entry) (h : List Entry) → IsLegal o up (e ∷ h) → is_done_request e.event ≡ false → ((c : Current) → (prelude o.who (digest o h) e.event).current ≡ Some c → IsCalmNow c)
    → IsHeld is_order_told owes IsCalmNow (may_order e.event) o.who (prelude o.who (digest o h) e.event) (prelude o.who (digest o h) e.event) (action o.who (digest o h) e.event)
held_entry o up e h legal off first =
    raised_event is_order_told owes IsCalmNow o.who (digest o h) e.event (may_order e.event) (raised e.event (may_order e.event) off (λ c f t asked told. orders_so e.event c f t asked told)) (late_law o up h legal.grown.3) legal.grown.0 first

-- of what is current, as the prelude left it
calm_first : (o : Origin) (e : Entry) (h : List Entry) → refusal o.who (digest o h) e.event ≡ None → is_crash e.event ≡ false → ((c : Current) → (digest o h).current ≡ Some c → IsCalmNow c) → (c : Current) → (prelude o.who (digest o h) e.event).current ≡ Some c → IsCalmNow c
calm_first o e h ok calm was c is = grind (arith, some_same)

calm_law : (o : Origin) (up : Option Addr) (h : List Entry) → IsLegal o up h → (c : Current) → (digest o h).current ≡ Some c → IsCalmNow c
calm_law o up [] legal c is = calm_again c (owed_again (digest o []).current c (started_again o up c legal is))
calm_law o up (e ∷ h) legal c is = go (is_crash e.event) refl (is_done_request e.event) refl (calm_law o up h (before_it o up e h legal))
  where
    go : (b : Bool) → is_crash e.event ≡ b → (v : Bool) → is_done_request e.event ≡ v → ((x : Current) → (digest o h).current ≡ Some x → IsCalmNow x) → IsCalmNow c
    go true i v j was = calm_again c (owed_again (digest o h).current c (sym (crash_next o e h i) ∙ is))
    go false i true j was = let now : (transact o.who (TxEvent.User Request.Done) (digest o h)).next.current ≡ Some c = ap (λ (x : Event). (action o.who (digest o h) x).next.current) (sym (done_is e.event j)) ∙ is in λ early. ((done_event o.who (digest o h)).from c now).1
    go false i false j was = ((held_entry o up e h legal j (calm_first o e h legal.grown.0 i was)).from c is).1

order_tells : (outs : List Out) → tells_order outs ≡ out_tells is_order_told outs
order_tells (o ∷ outs) = let rest = order_tells outs in grind (arith, rest)
order_tells _ = refl

abbrev owed_by : Origin → NodeKey → Entry → List Entry → Bool → Bool
owed_by o k e h b = if tells_order e.outs then true else if is_done_request e.event then false else b

phase_now : (o : Origin) (up : Option Addr) (h : List Entry) (c : Current) → IsLegal o up h → (digest o h).current ≡ Some c → phase_in o (node_key c.key) h ≡ c.phase
phase_now o up h c legal is = grind (arith, key_self, phase_law)

owes_mark : IsMark Bool false owes owes_in owed_by
owes_mark = record {
  fresh = λ k. refl;
  first = λ o up legal c is. owed_again (digest o []).current c (started_again o up c legal is) ∙ ap is_committing (sym (phase_now o up [] c legal is));
  crash = λ o up e h legal crash c is. owed_again (digest o h).current c (sym (crash_next o e h crash) ∙ is) ∙ ap is_committing (sym (phase_now o up (e ∷ h) c legal is)) ∙ sym (crashed o (node_key c.key) e h crash);
  begun = λ o k e h calm begun. rw (calm, begun, owes_in) refl;
  goes = λ o k e h calm off. rw (calm, off, owes_in) refl;
  step = λ o up e h legal calm u is. step o up e h legal calm u is (is_done_request e.event) refl;
  taken = λ o up e h legal k j begun. taken o up e h legal j begun;
}
  where
    crashed : (o : Origin) (k : NodeKey) (e : Entry) (h : List Entry) → is_crash e.event ≡ true → owes_in o k (e ∷ h) ≡ is_committing (phase_in o k (e ∷ h))
    crashed o k e h crash = ap (λ (b : Bool). if b then is_committing (phase_in o k (e ∷ h)) else if begins o k e h then false else if tells_order e.outs then true else if is_done_request e.event then false else owes_in o k h) crash

    made : (o : Origin) (up : Option Addr) (e : Entry) (h : List Entry) → IsLegal o up (e ∷ h) → out_tells is_order_told (action o.who (digest o h) e.event).outs ≡ tells_order e.outs
    made o up e h legal = ap (λ (x : Entry). out_tells is_order_told x.outs) legal.grown.1 ∙ sym (order_tells e.outs)

    first : (o : Origin) (up : Option Addr) (e : Entry) (h : List Entry) → IsLegal o up (e ∷ h) → is_crash e.event ≡ false → (c : Current) → (prelude o.who (digest o h) e.event).current ≡ Some c → IsCalmNow c
    first o up e h legal calm = calm_first o e h legal.grown.0 calm (calm_law o up h (before_it o up e h legal))

    as_before : (x y b : Bool) → y ≡ false → (x || b) ≡ (if x then true else if y then false else b)
    as_before true y b i = refl
    as_before false y b i = rw i refl

    reset : (x y b : Bool) → x ≡ false → y ≡ true → false ≡ (if x then true else if y then false else b)
    reset x y b i j = rw (i, j) refl

    step : (o : Origin) (up : Option Addr) (e : Entry) (h : List Entry) → IsLegal o up (e ∷ h) → is_crash e.event ≡ false → (u : Current) → (action o.who (digest o h) e.event).next.current ≡ Some u → (b : Bool) → is_done_request e.event ≡ b
        → IsStepTo Bool false owes o.who (prelude o.who (digest o h) e.event) (owed_by o (node_key u.key) e h) u
    step o up e h legal calm u is false j =
        elim (raised_step is_order_told owes IsCalmNow (may_order e.event) o.who (prelude o.who (digest o h) e.event) (action o.who (digest o h) e.event) (held_entry o up e h legal j (first o up e h legal calm)) u is) [
          | inl w ↦ inl (w.0, w.1, w.2, w.3 ∙ ap (λ (x : Bool). x || owes w.0) (made o up e h legal) ∙ as_before (tells_order e.outs) (is_done_request e.event) (owes w.0) j)
          | inr n ↦ inr n
        ]
    step o up e h legal calm u is true j = on (x.from u now).0
      where
        same : e.event ≡ Event.Do Request.Done
        same = done_is e.event j

        now : (transact o.who (TxEvent.User Request.Done) (digest o h)).next.current ≡ Some u
        now = ap (λ (v : Event). (action o.who (digest o h) v).next.current) (sym same) ∙ is

        x : IsDone o.who (digest o h) (transact o.who (TxEvent.User Request.Done) (digest o h))
        x = done_event o.who (digest o h)

        quiet : tells_order e.outs ≡ false
        quiet = sym (made o up e h legal) ∙ ap (λ (v : Event). out_tells is_order_told (action o.who (digest o h) v).outs) same ∙ x.quiet

        prelude_is : prelude o.who (digest o h) e.event ≡ digest o h
        prelude_is = ap (prelude o.who (digest o h)) same

        on : IsStepTo Bool false owes o.who (digest o h) (λ b. false) u → IsStepTo Bool false owes o.who (prelude o.who (digest o h) e.event) (owed_by o (node_key u.key) e h) u
        on k = subst (λ (d : Digest). IsStepTo Bool false owes o.who d (owed_by o (node_key u.key) e h) u) (sym prelude_is) (elim k [ inl w ↦ inl (w.0, w.1, w.2, w.3 ∙ reset (tells_order e.outs) (is_done_request e.event) (owes w.0) quiet j) | inr n ↦ inr n ])

    done_quiet : (o : Origin) (h : List Entry) (ev : Event) (rec : Option LogRec) (outs : List Out) (j : NodeKey) → takes_begin o (record { event = ev; rec = rec; outs = outs }) h ≡ Some j → (is_done_request ev ≡ false) × (is_crash ev ≡ false)
    done_quiet o h (Event.Arrive from r) rec outs j begun = (refl, refl)
    done_quiet o h ev rec outs j begun = absurd (cc (begun))

    taken : (o : Origin) (up : Option Addr) (e : Entry) (h : List Entry) → IsLegal o up (e ∷ h) → (j : NodeKey) → takes_begin o e h ≡ Some j → (if tells_order e.outs then true else if is_done_request e.event then false else false) ≡ false
    taken o up e h legal j begun = go (tells_order e.outs) refl
      where
        calm : (is_done_request e.event ≡ false) × (is_crash e.event ≡ false)
        calm = done_quiet o h e.event e.rec e.outs j begun

        flat : (b : Bool) → (if b then false else false) ≡ false
        flat true = refl
        flat false = refl

        go : (b : Bool) → tells_order e.outs ≡ b → (if b then true else if is_done_request e.event then false else false) ≡ false
        go false i = flat (is_done_request e.event)
        go true i =
            let k = (held_entry o up e h legal calm.0 (first o up e h legal calm.1)).early (made o up e h legal ∙ i) in
            absurd (let on : may_order e.event ≡ true = k.1 in let off : may_order e.event ≡ false = begin_orders o h e.event e.rec e.outs j begun in cc (on, off))

pub owes_agrees_law : (o : Origin) (up : Option Addr) (h : List Entry) → IsLegal o up h → owes_agrees o h ≡ true
owes_agrees_law o up h legal = go (digest o h).current refl
  where
    go : (v : Option Current) → (digest o h).current ≡ v → elim v as (λ _. Bool) [ None ↦ true | Some c ↦ same_bool c.owes (owes_in o (node_key c.key) h) ] ≡ true
    go None i = refl
    go (Some c) i = bool_self c.owes (owes_in o (node_key c.key) h) (mark_law Bool false owes owes_in owed_by owes_mark o up h legal c i)
