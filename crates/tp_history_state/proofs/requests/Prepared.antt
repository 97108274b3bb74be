-- In every legal history Prepare was told of the current transaction if an entry told it since its key was begun, and since
-- the last crash.
use Rattle.tp_history_state.proofs.Vocabulary.{◌≡◌, ℕ, Bool, true, false, refl, ap, sym, subst, ◌∙◌, arith, Option, Some, None, List, [], ◌∷◌, ◌++◌, ◌||◌, Mark, Addr, NodeKey, Report, Indication, DialogueRecord, PeerRecord, LogRec, TxEvent, TxOut, Origin, Event, Entry, Out, Current, Row, Transaction, Turn, turn, node_key, with_row, with_branch, with_arc_lost, all_done, complete_commit, complete_rollback, begin_rolling, order, ask_commit, leave, count_branch, end_branch, branch_left, retried, transacted, seen, remaining, takes_begin, tells_prepare, told_prepare_in, digest, action, same_bool, IsLegal, vote, decide, row_dead, shut_given_up, is_outcome_told, hears_prepare, Turns, IsPut, IsAsked, prelude, asks_tell, out_tells, told_prepare_agrees, tell_append, still_up, still_prepare, every_turn, late_law, bool_self, IsStep, IsFlag, flag_law, no_begin}
use Rattle.tp_history_state.proofs.orders.Told.{always, IsRaised, IsHeld, raised_event, raised_step}
use Rattle.tp_history_state.proofs.lemmas.Tells.{ordering_tells, rolls_untold, completion_tells, unrolling_tells, leave_tells, retried_tells}

abbrev is_prepare_told : Indication → Bool
is_prepare_told Indication.Prepare = true
is_prepare_told _ = false

-- ---- a turn: Prepare is told where it is taken, and noted then

abbrev IsNoting : TxEvent → Transaction → Turn → Type 0
IsNoting e t a = (a.next.told_prepare ≡ (asks_tell is_prepare_told a.outs || t.told_prepare)) × (asks_tell is_prepare_told a.outs ≡ true → hears_prepare e ≡ true)

noting_same : (e : TxEvent) (t : Transaction) (a : Turn) → a.next.told_prepare ≡ t.told_prepare → asks_tell is_prepare_told a.outs ≡ false → IsNoting e t a
noting_same e t a same none = (rw none same, λ h. absurd (cc (none, h)))

noting_then : (e : TxEvent) (t : Transaction) (xs ys : List TxOut) (u v : Bool) → (u ≡ (asks_tell is_prepare_told xs || t.told_prepare)) × (asks_tell is_prepare_told xs ≡ true → hears_prepare e ≡ true)
    → (v ≡ (asks_tell is_prepare_told ys || u)) × (asks_tell is_prepare_told ys ≡ true → hears_prepare e ≡ true)
    → (v ≡ (asks_tell is_prepare_told (xs ++ ys) || t.told_prepare)) × (asks_tell is_prepare_told (xs ++ ys) ≡ true → hears_prepare e ≡ true)
noting_then e t xs ys u v one two = grind (arith, tell_append)

told_row : (t : Transaction) (q : ℕ) (f : Row → Row) → (with_row t q f).told_prepare ≡ t.told_prepare
told_row t q f = grind arith

told_lost : (t : Transaction) (q : ℕ) → (with_arc_lost t q).told_prepare ≡ t.told_prepare
told_lost t q = grind (arith, told_row)

noting_order : (e : TxEvent) (t : Transaction) → IsNoting e t (order t)
unfolding order
noting_order e t = noting_same e t (order t) refl (ordering_tells is_prepare_told t)

noting_rolls : (e : TxEvent) (asked : Bool) (t : Transaction) → IsNoting e t (begin_rolling asked t)
unfolding begin_rolling
noting_rolls e asked t = noting_same e t (begin_rolling asked t) refl (rolls_untold is_prepare_told asked t refl)

noting_completes : (e : TxEvent) (t : Transaction) → IsNoting e t (complete_commit t)
unfolding complete_commit
noting_completes e t = grind (arith, all_done, completion_tells)

noting_unrolls : (e : TxEvent) (t : Transaction) → IsNoting e t (complete_rollback t)
unfolding complete_rollback
noting_unrolls e t = grind (arith, unrolling_tells)

noting_leaves : (e : TxEvent) (t : Transaction) → IsNoting e t (leave t)
unfolding leave
noting_leaves e t = noting_same e t (leave t) refl (leave_tells is_prepare_told t)

noting_asks : (e : TxEvent) (t : Transaction) → IsNoting e t (ask_commit t)
unfolding ask_commit
noting_asks e t = noting_same e t (ask_commit t) refl ((still_prepare t.rows).1 is_prepare_told)

noting_retried : (e : TxEvent) (t : Transaction) → IsNoting e t (turn (retried t) t)
noting_retried e t = noting_same e t (turn (retried t) t) refl (retried_tells is_prepare_told t refl)

noting_count : (e : TxEvent) (t : Transaction) (q : ℕ) → IsNoting e t (count_branch q t)
unfolding count_branch
noting_count e t q = noting_same e t (count_branch q t) (told_row t q (λ r. record r { branch = record r.branch { counted = true } })) refl

noting_end : (e : TxEvent) (t : Transaction) (q : ℕ) (x : Report) → IsNoting e t (end_branch q x t)
unfolding end_branch
noting_end e t q x = noting_same e t (end_branch q x t) (told_row t q (λ r. record r { branch = record r.branch { ended = true; report = x } })) (grind (arith))

noting_left : (e : TxEvent) (t : Transaction) (q : ℕ) → IsNoting e t (branch_left q t)
unfolding branch_left
noting_left e t q = noting_same e t (branch_left q t) (told_row t q (λ r. record r { branch = record r.branch { left = true } })) refl

not_prepare : (i : Indication) → is_outcome_told i ≡ false → is_prepare_told i ≡ false
not_prepare i h = grind (arith, h)

noting_turns : (e : TxEvent) (s : Transaction) → Turns e s (IsNoting e)
noting_turns e s = record {
  still = λ t. noting_same e t (turn [] t) refl refl;
  first = λ t u outs a one two. noting_then e t outs a.outs u.told_prepare a.next.told_prepare one two;
  chain = λ t a f one two none. noting_then e t a.outs (f a.next).outs a.next.told_prepare (f a.next).next.told_prepare one two;
  tells = λ t i n. noting_same e t (turn (TxOut.Tell i ∷ []) t) refl (rw (not_prepare i n) refl);
  notes_prepare = λ pr h. (refl, λ t. pr);
  notes_done = λ is. noting_same e s (turn [] (record s { owes = false })) refl refl;
  notes_end = λ q is. noting_same e s (turn (TxOut.Tell (Indication.DeferEnd q) ∷ []) (record s { up_ends = true })) refl refl;
  notes_rollback = λ ro h. noting_same e s (turn [] (record s { superior_rolled = true })) refl refl;
  defers_end = λ q is. noting_same e s (turn (TxOut.Carry q DialogueRecord.DeferEnd ∷ []) (with_row s q (λ r. record r { ends = true }))) (told_row s q (λ r. record r { ends = true })) refl;
  defers_grant = λ q is. noting_same e s (turn (TxOut.Carry q DialogueRecord.DeferGrant ∷ []) s) refl refl;
  prepares = λ q. noting_same e s (turn (TxOut.Carry q DialogueRecord.Prepare ∷ []) (with_branch s q (λ b. record b { prepared = true }))) (told_row s q (λ r. record r { branch = record r.branch { prepared = true } })) refl;
  asks = λ is act asked told. noting_asks e s;
  asks_again = noting_retried e s;
  decides = λ o is ready. noting_same e s (decide o s) refl refl;
  aborts = λ q is. noting_same e s (turn (TxOut.Carry q DialogueRecord.UAbort ∷ TxOut.Close q ∷ []) (with_arc_lost s q)) (told_lost s q) refl;
  loses_arc = λ q gone. noting_same e s (turn [] (with_arc_lost s q)) (told_lost s q) refl;
  closes_left = λ q is. noting_same e s (turn (TxOut.Close q ∷ []) (with_row s q row_dead)) (told_row s q row_dead) refl;
  gives_up = λ q r is c found. noting_same e s (shut_given_up q r s) (told_row s q (λ w. record w { branch = record w.branch { given_up = true }; live = false; ends = false })) (grind arith);
  counts = λ q is act row. noting_count e s q;
  ends_done = λ q r is c row. noting_end e s q r;
  ends_replied = λ b w r is found o. noting_end e s w.branch.peer.node r;
  ends_rolled = λ q r is c row. noting_end e s q r;
  leaves_below = λ q w t is left at act. noting_left e t q;
  leaves_rolling = λ q w t is left at c. noting_end e t q Report.None;
  votes = λ t act asked all under. noting_same e t (vote t) refl ((still_up t DialogueRecord.Ready refl).1 is_prepare_told);
  orders_root = λ t act asked all root. noting_order e t;
  orders_ready = λ ready is. noting_order e s;
  rolls = λ t asked f ok. noting_rolls e asked t;
  completes_commit = λ t c. noting_completes e t;
  completes_rollback = λ t c. noting_unrolls e t;
  leaves = λ is act under asked all. noting_leaves e s;
}

-- ---- of what is known of a node

abbrev is_prepare_event : Event → Bool
is_prepare_event (Event.Arrive from (PeerRecord.OnAssoc x y q DialogueRecord.Prepare)) = true
is_prepare_event _ = false

left_told : (t : Transaction) (u : Current) → remaining t ≡ Some u → u.told_prepare ≡ t.told_prepare
left_told t u i = grind arith

took_prepare : (from : Addr) (x y : Mark) (q p : ℕ) (r : DialogueRecord) → hears_prepare (TxEvent.Took p r) ≡ true → is_prepare_event (Event.Arrive from (PeerRecord.OnAssoc x y q r)) ≡ true
took_prepare from x y q p DialogueRecord.Prepare h = refl
took_prepare from x y q p r h = absurd (cc (h))

prepares_so : (e : Event) (c : Current) (f : TxEvent) → IsAsked e c f → hears_prepare f ≡ true → is_prepare_event e ≡ true
prepares_so e c f h1 h2 = grind (arith, took_prepare)

raised : (e : Event) → IsRaised is_prepare_told (λ c. c.told_prepare) always e (is_prepare_event e)
raised e = record {
  fresh = λ k. (refl, tt);
  begun = λ who arcs c u child inv is. (left_told (transacted (TxEvent.Begun (child ∷ [])) (seen who arcs c)).next u is, tt);
  turn = λ who arcs c u f inv asked put is. (left_told (transacted f (seen who arcs c)).next u is ∙ (noted f (seen who arcs c) put).0, tt);
  tells = λ who arcs c f inv asked put tells. prepares_so e c f asked ((noted f (seen who arcs c) put).1 tells);
  spoken = not_prepare;
}
  where
    noted : (f : TxEvent) (t : Transaction) → IsPut f t → IsNoting f t (transacted f t)
    noted f t put = every_turn f t (IsNoting f) (noting_turns f t) put

-- ---- every legal history

prepare_tells : (outs : List Out) → tells_prepare outs ≡ out_tells is_prepare_told outs
prepare_tells [] = refl
prepare_tells (Out.Tell Indication.Prepare ∷ outs) = refl
prepare_tells (o ∷ outs) = let rest = prepare_tells outs in grind (arith, rest)

abbrev tells_of : Origin → NodeKey → Entry → List Entry → Bool
tells_of o k e h = tells_prepare e.outs

held_entry : (o : Origin) (up : Option Addr) (e : Entry) (h : List Entry) → IsLegal o up (e ∷ h)
    → IsHeld is_prepare_told (λ c. c.told_prepare) always (is_prepare_event e.event) o.who (prelude o.who (digest o h) e.event) (prelude o.who (digest o h) e.event) (action o.who (digest o h) e.event)
held_entry o up e h legal = raised_event is_prepare_told (λ c. c.told_prepare) always o.who (digest o h) e.event (is_prepare_event e.event) (raised e.event) (late_law o up h legal.grown.3) legal.grown.0 (λ c is. tt)

prepared_taken : (o : Origin) (h : List Entry) (ev : Event) (rec : Option LogRec) (outs : List Out) (j : NodeKey) → takes_begin o (record { event = ev; rec = rec; outs = outs }) h ≡ Some j → is_prepare_event ev ≡ true → ⊥
prepared_taken o h (Event.Arrive from (PeerRecord.OnAssoc x y q DialogueRecord.Prepare)) rec outs j begun is =
    let none : takes_begin o (record { event = Event.Arrive from (PeerRecord.OnAssoc x y q DialogueRecord.Prepare); rec = rec; outs = outs }) h ≡ None = no_begin o h from x y q DialogueRecord.Prepare rec outs (λ t b k i. cc (i)) in
    let no : None ≡ Some j = sym none ∙ begun in
    cc (no)
prepared_taken o h ev rec outs j begun is = absurd (cc (is))

told_flag : IsFlag (λ c. c.told_prepare) tells_of
told_flag = record {
  fresh = λ k. refl;
  again = λ k p bs u. refl;
  step = λ o up e h legal calm u is. step o up e h legal u is;
  taken = λ o up e h legal k j begun. quiet o up e h legal j begun (tells_prepare e.outs) refl;
}
  where
    made : (o : Origin) (up : Option Addr) (e : Entry) (h : List Entry) → IsLegal o up (e ∷ h) → out_tells is_prepare_told (action o.who (digest o h) e.event).outs ≡ tells_prepare e.outs
    made o up e h legal = ap (λ (x : Entry). out_tells is_prepare_told x.outs) legal.grown.1 ∙ sym (prepare_tells e.outs)

    step : (o : Origin) (up : Option Addr) (e : Entry) (h : List Entry) → IsLegal o up (e ∷ h) → (u : Current) → (action o.who (digest o h) e.event).next.current ≡ Some u → IsStep (λ c. c.told_prepare) o.who (prelude o.who (digest o h) e.event) (tells_prepare e.outs) u
    step o up e h legal u is =
        subst (λ (b : Bool). IsStep (λ c. c.told_prepare) o.who (prelude o.who (digest o h) e.event) b u) (made o up e h legal)
        (raised_step is_prepare_told (λ c. c.told_prepare) always (is_prepare_event e.event) o.who (prelude o.who (digest o h) e.event) (action o.who (digest o h) e.event) (held_entry o up e h legal) u is)

    quiet : (o : Origin) (up : Option Addr) (e : Entry) (h : List Entry) → IsLegal o up (e ∷ h) → (j : NodeKey) → takes_begin o e h ≡ Some j → (v : Bool) → tells_prepare e.outs ≡ v → tells_prepare e.outs ≡ false
    quiet o up e h legal j begun true i = absurd (prepared_taken o h e.event e.rec e.outs j begun ((held_entry o up e h legal).early (made o up e h legal ∙ i)).1)
    quiet o up e h legal j begun false i = i

pub told_prepare_agrees_law : (o : Origin) (up : Option Addr) (h : List Entry) → IsLegal o up h → told_prepare_agrees o h ≡ true
told_prepare_agrees_law o up h legal = go (digest o h).current refl
  where
    go : (v : Option Current) → (digest o h).current ≡ v → elim v as (λ _. Bool) [ None ↦ true | Some c ↦ same_bool c.told_prepare (told_prepare_in o (node_key c.key) h) ] ≡ true
    go None i = refl
    go (Some c) i = bool_self c.told_prepare (told_prepare_in o (node_key c.key) h) (flag_law (λ c. c.told_prepare) tells_of told_flag o up h legal c i)
