-- In every legal history Prepare was said to a branch of the current transaction if an entry said it since its key was begun,
-- and since the last crash.
use Rattle.tp_history_state.proofs.Vocabulary.{if◌then◌else◌, ◌≡◌, inl, inr, ℕ, Bool, true, false, refl, ap, sym, subst, ◌∙◌, arith, Option, Some, None, List, [], ◌∷◌, ◌++◌, ◌&&◌, ◌||◌, ◌==◌, not, or-true, nat_tests, Addr, NodeKey, Report, Request, DialogueRecord, PeerRecord, Phase, TxEvent, TxOut, Who, Origin, Event, Entry, Arc, Branch, Current, Digest, is_active, is_late, is_nil, is_rolling, is_live, find_arc, link_with, is_live_with_peer, carried, performed, Row, Transaction, Turn, is_under_at, find_row, row_holds, with_row, all_prepared, prepare_each, ask_commit, begin_rolling, branch_left, count_branch, end_branch, leave, order, settle, transacted, refused_tx, Move, move, followed, try_start, is_superior, situation_at, seen, turned, passed, passage, Passage, is_over, entered, played, transact, refused_request, refused_on_arc, refusal, action, digest, some_since, said_to, has_said, IsLegal, IsLate, IsPut, Turns, asks_tell, row_dead, prelude, carries_none, none_more, said_both, said_carried, plain_request, step_move, every_turn, late_law, left_is, link_entered, passed_turn, row_phase, before_it, IsStep, IsMark, mark_law, started_again, crash_next, placed_law, headed_law, under_headed, superior_at, IsPlaced, is_at, prepared_agrees, started_next}
unfoldable use Rattle.tp_model.specs.Transactions.{situation_of}
use Rattle.tp_model.specs.Keys.{is_prepare_record}
use Rattle.tp_steps.proofs.lemmas.Equality.{and_left, and_right}
use Rattle.tp_history_state.proofs.orders.Told.{always, IsRaised, least, none_told, raised_event, raised_step, started_from}
use Rattle.tp_history_state.specs.Reaching.{is_hasty, is_pending, marked}
use Rattle.tp_history_state.proofs.marks.BranchMark.{hit_by, hits_so, left_marked, lost_same, more_same, row_put, row_same, rows_completed, rows_settled, rows_unrolled, seen_marked}
use Rattle.tp_history_state.proofs.marks.Marked.{again_marked, begun_calm, each_law, quiet_told}
use Rattle.tp_history_state.proofs.deferral.Silent.{still_transact}
use Rattle.tp_history_state.proofs.rests.Foreign.{carries_none_to, said_none_to}
use Rattle.tp_history_state.proofs.links.Shuts.{shuts_performed}
use Rattle.tp_history_state.proofs.prepares.Unsaid.{asks_prepare, mute_steps, unsaid_settled, unsaid_turn, IsMute}
use Rattle.tp_history_state.proofs.prepares.Proper.{proper_law}
use Rattle.tp_history_state.proofs.prepares.Pending.{more_live}
use Rattle.tp_history_state.proofs.prepares.Closed.{reached_law}

abbrev is_told : Branch → Bool
is_told b = b.prepared

-- ---- a turn in which no Prepare is said

abbrev IsSteady : ℕ → Transaction → Turn → Type 0
IsSteady p t a = carries_none is_prepare_record a.outs ≡ true → row_holds a.next.rows p is_told ≡ row_holds t.rows p is_told

steady_all : (p : ℕ) (rows : List Row) → carries_none is_prepare_record (prepare_each rows) ≡ true → row_holds (all_prepared rows) p is_told ≡ row_holds rows p is_told
steady_all p [] none = refl
steady_all p (r ∷ rows) none = go r.branch.prepared refl none (steady_all p rows)
  where
    x : Row
    x = record r { branch = record r.branch { prepared = true } }

    on : (v : Bool) → r.branch.prepared ≡ true → row_holds (all_prepared rows) p is_told ≡ row_holds rows p is_told
        → elim (if v then Some x else find_row (all_prepared rows) p) as (λ _. Bool) [ None ↦ false | Some y ↦ is_told y.branch ] ≡ elim (if v then Some r else find_row rows p) as (λ _. Bool) [ None ↦ false | Some y ↦ is_told y.branch ]
    on true i rest = sym i
    on false i rest = rest

    go : (b : Bool) → r.branch.prepared ≡ b → carries_none is_prepare_record (if b then prepare_each rows else TxOut.Carry r.branch.peer.node DialogueRecord.Prepare ∷ prepare_each rows) ≡ true
        → (carries_none is_prepare_record (prepare_each rows) ≡ true → row_holds (all_prepared rows) p is_told ≡ row_holds rows p is_told)
        → row_holds (all_prepared (r ∷ rows)) p is_told ≡ row_holds (r ∷ rows) p is_told
    go true i none rest = on (r.branch.peer.node == p) i (rest none)
    go false i none rest = absurd (cc (none))

steady_then : (p : ℕ) (t u : Transaction) (xs ys : List TxOut) (v : Transaction) → (carries_none is_prepare_record xs ≡ true → row_holds u.rows p is_told ≡ row_holds t.rows p is_told) → (carries_none is_prepare_record ys ≡ true → row_holds v.rows p is_told ≡ row_holds u.rows p is_told)
    → carries_none is_prepare_record (xs ++ ys) ≡ true → row_holds v.rows p is_told ≡ row_holds t.rows p is_told
steady_then p t u xs ys v one two none =
    let both : (carries_none is_prepare_record xs && carries_none is_prepare_record ys) ≡ true = sym (none_more is_prepare_record xs ys) ∙ none in
    two (and_right (carries_none is_prepare_record xs) (carries_none is_prepare_record ys) both) ∙ one (and_left (carries_none is_prepare_record xs) (carries_none is_prepare_record ys) both)

steady_turns : (p : ℕ) (e : TxEvent) (s : Transaction) → Turns e s (IsSteady p)
unfolding ask_commit leave count_branch end_branch branch_left order begin_rolling
steady_turns p e s = record {
  still = λ t none. refl;
  first = λ t u outs a one two. steady_then p t u outs a.outs a.next one two;
  chain = λ t a f one two quiet. steady_then p t a.next a.outs (f a.next).outs (f a.next).next one two;
  tells = λ t i n none. refl;
  notes_prepare = λ pr h none. refl;
  notes_done = λ is none. refl;
  notes_end = λ q is none. refl;
  notes_rollback = λ ro h none. refl;
  defers_end = λ q is none. row_same is_told p s q (λ r. record r { ends = true }) (λ r. refl) (λ r j. refl);
  defers_grant = λ q is none. refl;
  prepares = λ q none. absurd (cc (none));
  asks = λ is act asked told none. steady_all p s.rows none;
  asks_again = λ none. refl;
  decides = λ o is ready none. refl;
  aborts = λ q is none. lost_same is_told p s q;
  loses_arc = λ q gone none. lost_same is_told p s q;
  closes_left = λ q is none. row_same is_told p s q row_dead (λ r. refl) (λ r j. refl);
  gives_up = λ q r is c found none. row_same is_told p s q (λ x. record x { branch = record x.branch { given_up = true }; live = false; ends = false }) (λ r. refl) (λ x j. refl);
  counts = λ q is act row none. row_same is_told p s q (λ r. record r { branch = record r.branch { counted = true } }) (λ r. refl) (λ x j. refl);
  ends_done = λ q r is c row none. row_same is_told p s q (λ x. record x { branch = record x.branch { ended = true; report = r } }) (λ r. refl) (λ x j. refl);
  ends_replied = λ b v r is found o none. row_same is_told p s v.branch.peer.node (λ x. record x { branch = record x.branch { ended = true; report = r } }) (λ r. refl) (λ x j. refl);
  ends_rolled = λ q r is c row none. row_same is_told p s q (λ x. record x { branch = record x.branch { ended = true; report = r } }) (λ r. refl) (λ x j. refl);
  leaves_below = λ q w t is left at act none. row_same is_told p t q (λ x. record x { branch = record x.branch { left = true } }) (λ r. refl) (λ x j. refl);
  leaves_rolling = λ q w t is left at c none. row_same is_told p t q (λ x. record x { branch = record x.branch { ended = true; report = Report.None } }) (λ r. refl) (λ x j. refl);
  votes = λ t act asked all under none. refl;
  orders_root = λ t act asked all root none. refl;
  orders_ready = λ ready is none. refl;
  rolls = λ t asked f ok none. refl;
  completes_commit = λ t c none. ap (λ (rows : List Row). row_holds rows p is_told) (rows_completed t);
  completes_rollback = λ t c none. ap (λ (rows : List Row). row_holds rows p is_told) (rows_unrolled t);
  leaves = λ is act under asked all none. refl;
}

-- ---- an event that asks for none

untold : (p : ℕ) (e : Event) → hit_by asks_prepare e ≡ false → IsRaised none_told (marked is_told p) always e true
untold p e off = record {
  fresh = λ key. (refl, tt);
  begun = λ who arcs c u child inv is. (left_marked is_told p (transacted (TxEvent.Begun (child ∷ [])) (seen who arcs c)).next u is ∙ more_same is_told p (λ x. refl) (seen who arcs c).rows child ∙ seen_marked is_told p who arcs c, tt);
  turn = λ who arcs c u f inv asked put is.
      let t : Transaction = seen who arcs c in
      (left_marked is_told p (transacted f t).next u is ∙ every_turn f t (IsSteady p) (steady_turns p f t) put (unsaid_turn f t (hits_so asks_prepare e c f asked off)) ∙ seen_marked is_told p who arcs c ∙ sym (ap (λ (b : Bool). b || marked is_told p c) (silent (transacted f t).outs)), tt);
  tells = λ who arcs c f inv asked put told. refl;
  spoken = λ i h. refl;
}
  where
    silent : (outs : List TxOut) → asks_tell none_told outs ≡ false
    silent [] = refl
    silent (o ∷ outs) = let rest = silent outs in grind (arith, rest)

abbrev says : ℕ → Move → Bool
says p m = has_said is_prepare_record (said_to p m.outs)

abbrev IsToldStep : Who → Digest → Event → ℕ → Current → Type 0
IsToldStep who d e p u = IsStep (marked is_told p) who (prelude who d e) (says p (action who d e)) u

mute : (who : Who) (d : Digest) (e : Event) (p : ℕ) → hit_by asks_prepare e ≡ false → IsLate d → refusal who d e ≡ None → says p (action who d e) ≡ false
mute who d e p off late ok = step_move who d e (IsMute p) (mute_steps who e (prelude who d e) p (λ c f asked. hits_so asks_prepare e c f asked off)) late ok

other_step : (who : Who) (d : Digest) (e : Event) (p : ℕ) → hit_by asks_prepare e ≡ false → IsLate d → refusal who d e ≡ None → (u : Current) → (action who d e).next.current ≡ Some u → IsToldStep who d e p u
other_step who d e p off late ok u is =
    subst (λ (b : Bool). IsStep (marked is_told p) who (prelude who d e) b u) (quiet_told (action who d e).outs ∙ sym (mute who d e p off late ok))
    (raised_step none_told (marked is_told p) always true who (prelude who d e) (action who d e) (raised_event none_told (marked is_told p) always who d e true (untold p e off) late ok (λ c i. tt)) u is)

-- ---- the user asks to prepare a branch

idle_refused : (who : Who) (d : Digest) (q : ℕ) → refused_request who d (Request.Prepare q) ≡ None → d.current ≡ None → ⊥
unfolding refused_request refused_on_arc
idle_refused who d q ok none = absurd (grind (arith, ok, none))

-- the arc is live, leads to no superior, and is a branch's; and the transaction is not late
record IsAskable (who : Who) (d : Digest) (q : ℕ) : Type 0 where
  live : is_live_with_peer d.arcs q ≡ true
  below : is_superior d q ≡ false
  branch : (situation_at who d q).branch ≡ true
  early : is_late (situation_at who d q).phase ≡ false

askable : (who : Who) (d : Digest) (q : ℕ) → refused_request who d (Request.Prepare q) ≡ None → IsAskable who d q
unfolding refused_request refused_on_arc
askable who d q ok = go (find_arc d.arcs q) refl
  where
    go : (o : Option Arc) → find_arc d.arcs q ≡ o → IsAskable who d q
    go None i = absurd (grind (arith, ok, i))
    go (Some a) i =
        let b : (situation_at who d q).branch ≡ true = grind (arith, ok, i) in
        record { live = grind (arith, ok, i); below = grind (arith, ok, i); branch = b; early = grind (arith, ok, i, b) }

afloat : (p : Phase) → is_nil p ≡ false → is_late p ≡ false → is_active p ≡ true
afloat p h i = grind (arith, h, i)

-- so it stands among the branches
branch_row : (o : Origin) (up : Option Addr) (h : List Entry) (c : Current) (q : ℕ) → IsLegal o up h → (digest o h).current ≡ Some c → IsAskable o.who (digest o h) q → row_holds (seen o.who (digest o h).arcs c).rows q (λ b. true) ≡ true
unfolding situation_of
branch_row o up h c q legal now k = go (is_under_at c.key q) refl (sym (ap (λ (v : Option Current). (situation_at o.who (record d { current = v }) q).branch) now) ∙ k.branch)
  where
    d : Digest
    d = digest o h

    active : is_active c.phase ≡ true
    active = afloat c.phase (late_law o up h legal.grown c now) (sym (ap (λ (v : Option Current). is_late (situation_at o.who (record d { current = v }) q).phase) now) ∙ k.early)

    above : is_under_at c.key q ≡ true → IsPlaced up d → ⊥
    above i (inl s) =
        let on : is_at up q ≡ true = under_headed up c.key q (headed_law o up h legal.grown c now active).0 i in
        let no : is_at up q ≡ false = sym (superior_at d q ∙ ap (λ (v : Option Addr). is_at v q) s) ∙ k.below in
        cc (on, no)
    above i (inr n) = let dead : is_live_with_peer d.arcs q ≡ false = n q in let live : is_live_with_peer d.arcs q ≡ true = k.live in cc (dead, live)

    go : (b : Bool) → is_under_at c.key q ≡ b → (is_under_at c.key q || row_holds (seen o.who d.arcs c).rows q (λ b. true)) ≡ true → row_holds (seen o.who d.arcs c).rows q (λ b. true) ≡ true
    go true i m = absurd (above i (placed_law o up h legal.grown))
    go false i m = rw i at m

told_row : (p q : ℕ) (t : Transaction) → row_holds t.rows q (λ b. true) ≡ true → row_holds (with_row t q (λ r. record r { branch = record r.branch { prepared = true } })).rows p is_told ≡ ((q == p) || row_holds t.rows p is_told)
told_row p q t there = go (find_row t.rows q) refl there
  where
    f : Row → Row
    f r = record r { branch = record r.branch { prepared = true } }

    either : (b v : Bool) → (if b then true else v) ≡ (b || v)
    either true v = refl
    either false v = refl

    go : (o : Option Row) → find_row t.rows q ≡ o → elim o as (λ _. Bool) [ None ↦ false | Some r ↦ true ] ≡ true → row_holds (with_row t q f).rows p is_told ≡ ((q == p) || row_holds t.rows p is_told)
    go None i h = absurd (cc (h))
    go (Some r) i h = row_put is_told p t q f (λ x. refl) r i ∙ either (q == p) (row_holds t.rows p is_told)

said_there : (p q : ℕ) (arcs : List Arc) → is_live_with_peer arcs q ≡ true → has_said is_prepare_record (said_to p (performed arcs (TxOut.Carry q DialogueRecord.Prepare ∷ [])).1) ≡ (q == p)
said_there p q arcs live = said_both is_prepare_record p (carried arcs q DialogueRecord.Prepare).1 [] ∙ ap (λ (rs : List DialogueRecord). has_said is_prepare_record rs || false) one ∙ go (q == p)
  where
    one : said_to p (carried arcs q DialogueRecord.Prepare).1 ≡ (if (q == p) && true then DialogueRecord.Prepare ∷ [] else [])
    one = said_carried p arcs q DialogueRecord.Prepare ∙ ap (λ (b : Bool). if (q == p) && b then DialogueRecord.Prepare ∷ [] else []) live

    go : (b : Bool) → (has_said is_prepare_record (if b && true then DialogueRecord.Prepare ∷ [] else []) || false) ≡ b
    go true = refl
    go false = refl

prepare_step : (who : Who) (d : Digest) (q p : ℕ) (c : Current) → d.current ≡ Some c → is_nil c.phase ≡ false → is_live_with_peer d.arcs q ≡ true → row_holds (seen who d.arcs c).rows q (λ b. true) ≡ true
    → (u : Current) → (action who d (Event.Do (Request.Prepare q))).next.current ≡ Some u → IsToldStep who d (Event.Do (Request.Prepare q)) p u
unfolding refused_tx
prepare_step who d q p c now late live there u is =
    elim (started_from (marked is_told p) (untold p Event.Crash refl) who d d c f ((q == p) || marked is_told p c) now (refl, least d.drawn) (λ x i. (at_key x i, at_mark x i)) u is) [
      | inl z ↦ inl (c, now, z.0, z.1 ∙ ap (λ (b : Bool). b || marked is_told p c) (sym said))
      | inr z ↦ inr (z.0, z.1)
    ]
  where
    f : TxEvent
    f = TxEvent.User (Request.Prepare q)

    t : Transaction
    t = seen who d.arcs c

    put : IsPut f t
    put = record { late = late; ok = λ h. refl; abort = λ n h. cc (h); ordered = λ h. cc (h); not_begun = λ arcs h. cc (h) }

    said : says p (transact who f d) ≡ (q == p)
    said = ap (λ (outs : _). has_said is_prepare_record (said_to p outs)) (still_transact who f d c now (row_phase t q (λ r. record r { branch = record r.branch { prepared = true } }))).1 ∙ said_there p q d.arcs live

    at_key : (x : Current) → (turned who f d c).next.current ≡ Some x → x.key ≡ c.key
    at_key x i = (left_is (transacted f t).next x i).0 ∙ (passed_turn f t put).key

    at_mark : (x : Current) → (turned who f d c).next.current ≡ Some x → marked is_told p x ≡ ((q == p) || marked is_told p c)
    at_mark x i = left_marked is_told p (transacted f t).next x i ∙ told_row p q t there ∙ ap (λ (b : Bool). (q == p) || b) (seen_marked is_told p who d.arcs c)

-- ---- the user asks to commit

told_all : (p : ℕ) (rows : List Row) → row_holds (all_prepared rows) p is_told ≡ row_holds rows p (λ b. true)
told_all p [] = refl
told_all p (r ∷ rows) = go (r.branch.peer.node == p) (told_all p rows)
  where
    x : Row
    x = record r { branch = record r.branch { prepared = true } }

    go : (b : Bool) → row_holds (all_prepared rows) p is_told ≡ row_holds rows p (λ b. true)
        → elim (if b then Some x else find_row (all_prepared rows) p) as (λ _. Bool) [ None ↦ false | Some y ↦ is_told y.branch ] ≡ elim (if b then Some r else find_row rows p) as (λ _. Bool) [ None ↦ false | Some y ↦ true ]
    go true rest = refl
    go false rest = rest

-- nothing goes to a peer that is no branch
none_to : (p : ℕ) (rows : List Row) (ys : List TxOut) → row_holds rows p (λ b. true) ≡ false → carries_none is_prepare_record ys ≡ true → carries_none_to is_prepare_record p (prepare_each rows ++ ys) ≡ true
none_to p [] ys off none = elsewhere ys none
  where
    elsewhere : (outs : List TxOut) → carries_none is_prepare_record outs ≡ true → carries_none_to is_prepare_record p outs ≡ true
    elsewhere [] h = refl
    elsewhere (o ∷ outs) h = let rest = elsewhere outs in grind (arith, h, rest)
none_to p (r ∷ rows) ys off none = go (r.branch.peer.node == p) refl r.branch.prepared off (λ k. none_to p rows ys k none)
  where
    go : (b : Bool) → (r.branch.peer.node == p) ≡ b → (v : Bool) → elim (if b then Some r else find_row rows p) as (λ _. Bool) [ None ↦ false | Some y ↦ true ] ≡ false
        → (row_holds rows p (λ b. true) ≡ false → carries_none_to is_prepare_record p (prepare_each rows ++ ys) ≡ true)
        → carries_none_to is_prepare_record p ((if v then prepare_each rows else TxOut.Carry r.branch.peer.node DialogueRecord.Prepare ∷ prepare_each rows) ++ ys) ≡ true
    go true i v off rest = absurd (cc (off))
    go false i true off rest = rest off
    go false i false off rest = let more : carries_none_to is_prepare_record p (prepare_each rows ++ ys) ≡ true = rest off in grind (arith, i, more)

-- it goes to a branch on a live arc that was not told yet
some_to : (p : ℕ) (rows : List Row) (ys : List TxOut) (arcs : List Arc) → row_holds rows p (λ b. not b.prepared) ≡ true → is_live_with_peer arcs p ≡ true → has_said is_prepare_record (said_to p (performed arcs (prepare_each rows ++ ys)).1) ≡ true
some_to p [] ys arcs h live = absurd (cc (h))
some_to p (r ∷ rows) ys arcs h live = go (r.branch.peer.node == p) refl r.branch.prepared refl h (λ xs. some_to p rows ys xs)
  where
    q : ℕ
    q = r.branch.peer.node

    w : DialogueRecord
    w = DialogueRecord.Prepare

    next : List Arc
    next = (carried arcs q w).0

    kept : is_live_with_peer next p ≡ true
    kept = ap is_live (shuts_performed arcs (TxOut.Carry q w ∷ []) p refl) ∙ more_live _ (link_with arcs p) live

    here : q ≡ p → has_said is_prepare_record (said_to p (carried arcs q w).1) ≡ true
    here at = ap (has_said is_prepare_record) (said_carried p arcs q w) ∙ rw (subst (λ (n : ℕ). is_live_with_peer arcs n ≡ true) (sym at) live, same at) refl
      where
        same : q ≡ p → (q == p) ≡ true
        same at = grind (arith, nat_tests, at)

    after : has_said is_prepare_record (said_to p (performed next (prepare_each rows ++ ys)).1) ≡ true → has_said is_prepare_record (said_to p (performed arcs (TxOut.Carry q w ∷ prepare_each rows ++ ys)).1) ≡ true
    after i = said_both is_prepare_record p (carried arcs q w).1 (performed next (prepare_each rows ++ ys)).1 ∙ ap (λ (b : Bool). has_said is_prepare_record (said_to p (carried arcs q w).1) || b) i ∙ or-true (has_said is_prepare_record (said_to p (carried arcs q w).1))

    first : has_said is_prepare_record (said_to p (carried arcs q w).1) ≡ true → has_said is_prepare_record (said_to p (performed arcs (TxOut.Carry q w ∷ prepare_each rows ++ ys)).1) ≡ true
    first i = said_both is_prepare_record p (carried arcs q w).1 (performed next (prepare_each rows ++ ys)).1 ∙ ap (λ (b : Bool). b || has_said is_prepare_record (said_to p (performed next (prepare_each rows ++ ys)).1)) i

    go : (b : Bool) → (q == p) ≡ b → (v : Bool) → r.branch.prepared ≡ v → elim (if b then Some r else find_row rows p) as (λ _. Bool) [ None ↦ false | Some y ↦ not y.branch.prepared ] ≡ true
        → ((xs : List Arc) → row_holds rows p (λ b. not b.prepared) ≡ true → is_live_with_peer xs p ≡ true → has_said is_prepare_record (said_to p (performed xs (prepare_each rows ++ ys)).1) ≡ true)
        → has_said is_prepare_record (said_to p (performed arcs ((if v then prepare_each rows else TxOut.Carry q w ∷ prepare_each rows) ++ ys)).1) ≡ true
    go true i true j h rest = absurd (let off : not r.branch.prepared ≡ false = ap not j in cc (off, h))
    go true i false j h rest = first (here (grind (arith, nat_tests, i)))
    go false i true j h rest = rest arcs h live
    go false i false j h rest = after (rest next h kept)

early : (who : Who) (d : Digest) (c : Current) → refused_request who d Request.Commit ≡ None → d.current ≡ Some c → is_late c.phase ≡ false
unfolding refused_request
early who d c ok now = grind (arith, ok, now)

no_commit : (who : Who) (d : Digest) → refused_request who d Request.Commit ≡ None → d.current ≡ None → ⊥
unfolding refused_request
no_commit who d ok now = absurd (grind (arith, ok, now))

refused_commit : (who : Who) (d : Digest) (c : Current) → refused_request who d Request.Commit ≡ None → d.current ≡ Some c → refused_tx (TxEvent.User Request.Commit) (seen who d.arcs c) ≡ None
unfolding refused_request refused_tx
refused_commit who d c ok now = grind (arith, ok, now)

-- it goes on, or votes or orders
goes_on : (t : Transaction) → is_active t.phase ≡ true → (is_nil (settle t).next.phase || is_rolling (settle t).next.phase) ≡ false
unfolding settle order
goes_on t act = grind (arith, act)

plain_played : (d : Digest) (t : Transaction) (p q : Phase) (asks : Turn) (arcs : List Arc) → is_active p ≡ true → (is_nil q || is_rolling q) ≡ false → ((played d t (passage false p q) asks arcs).1 ≡ (performed arcs asks.outs).1) × (is_over (passage false p q) ≡ false)
unfolding played
plain_played d t Phase.Active Phase.Active asks arcs h i = (refl, refl)
plain_played d t Phase.Active Phase.Ready asks arcs h i = (refl, refl)
plain_played d t Phase.Active Phase.Committing asks arcs h i = (refl, refl)
plain_played d t Phase.Active Phase.Nil asks arcs h i = absurd (cc (i))
plain_played d t Phase.Active Phase.Rolling asks arcs h i = absurd (cc (i))
plain_played d t p q asks arcs h i = absurd (cc (h))

same_turned : (who : Who) (f : TxEvent) (d : Digest) (c : Current) → d.current ≡ Some c → is_over (passed who f d c) ≡ false → (transact who f d).outs ≡ (turned who f d c).outs
unfolding transact
same_turned who f d c now over =
    ap (λ (v : Option Current). (elim v as (λ _. Move) [ None ↦ move [] d | Some x ↦ started_next who (passed who f d x) (turned who f d x) ]).outs) now
    ∙ go (is_over (passed who f d c)) over
  where
    go : (b : Bool) → b ≡ false → (if b then followed (turned who f d c) (try_start who) else turned who f d c).outs ≡ (turned who f d c).outs
    go false h = refl
    go true h = absurd (cc (h))

commit_step : (who : Who) (d : Digest) (p : ℕ) (c : Current) → d.current ≡ Some c → is_active c.phase ≡ true → refused_tx (TxEvent.User Request.Commit) (seen who d.arcs c) ≡ None
    → (row_holds (seen who d.arcs c).rows p (λ b. not b.prepared) ≡ true → is_live_with_peer d.arcs p ≡ true)
    → (u : Current) → (action who d (Event.Do Request.Commit)).next.current ≡ Some u → IsToldStep who d (Event.Do Request.Commit) p u
unfolding ask_commit
commit_step who d p c now act ok live u is =
    elim (started_from (marked is_told p) (untold p Event.Crash refl) who d d c f (row_holds t.rows p (λ b. true)) now (refl, least d.drawn) (λ x i. (at_key x i, at_mark x i)) u is) [
      | inl z ↦ inl (c, now, z.0, z.1 ∙ sym both)
      | inr z ↦ inr (z.0, z.1)
    ]
  where
    f : TxEvent
    f = TxEvent.User Request.Commit

    t : Transaction
    t = seen who d.arcs c

    a : Turn
    a = transacted f t

    w : Passage
    w = passage false t.phase a.next.phase

    xs : List Arc
    xs = entered t w d.arcs

    ys : List TxOut
    ys = (settle (ask_commit t).next).outs

    put : IsPut f t
    put = record { late = awake c.phase act; ok = λ h. ok; abort = λ n h. cc (h); ordered = λ h. cc (h); not_begun = λ arcs h. cc (h) }
      where
        awake : (q : Phase) → is_active q ≡ true → is_nil q ≡ false
        awake q h = grind (arith, h)

    on : (is_nil a.next.phase || is_rolling a.next.phase) ≡ false
    on = goes_on (ask_commit t).next act

    outs : (transact who f d).outs ≡ (performed xs (prepare_each t.rows ++ ys)).1
    outs = same_turned who f d c now (plain_played d t t.phase a.next.phase a xs act on).1 ∙ (plain_played d t t.phase a.next.phase a xs act on).0

    said : says p (transact who f d) ≡ has_said is_prepare_record (said_to p (performed xs (prepare_each t.rows ++ ys)).1)
    said = ap (λ (os : _). has_said is_prepare_record (said_to p os)) outs

    both : (says p (transact who f d) || marked is_told p c) ≡ row_holds t.rows p (λ b. true)
    both = ap (λ (b : Bool). b || marked is_told p c) said ∙ ap (λ (b : Bool). has_said is_prepare_record (said_to p (performed xs (prepare_each t.rows ++ ys)).1) || b) (sym (seen_marked is_told p who d.arcs c)) ∙ go (find_row t.rows p) refl
      where
        go : (o : Option Row) → find_row t.rows p ≡ o
            → (has_said is_prepare_record (said_to p (performed xs (prepare_each t.rows ++ ys)).1) || row_holds t.rows p is_told) ≡ row_holds t.rows p (λ b. true)
        go None i =
            let none : row_holds t.rows p (λ b. true) ≡ false = ap (λ (v : Option Row). elim v as (λ _. Bool) [ None ↦ false | Some r ↦ true ]) i in
            let off : row_holds t.rows p is_told ≡ false = ap (λ (v : Option Row). elim v as (λ _. Bool) [ None ↦ false | Some r ↦ is_told r.branch ]) i in
            let quiet : has_said is_prepare_record (said_to p (performed xs (prepare_each t.rows ++ ys)).1) ≡ false = said_none_to is_prepare_record p xs (prepare_each t.rows ++ ys) (none_to p t.rows ys none (unsaid_settled (ask_commit t).next)) in
            rw (quiet, off, none) refl
        go (Some r) i = told r.branch.prepared refl
          where
            some : row_holds t.rows p (λ b. true) ≡ true
            some = ap (λ (v : Option Row). elim v as (λ _. Bool) [ None ↦ false | Some x ↦ true ]) i

            is_so : (g : Branch → Bool) → row_holds t.rows p g ≡ g r.branch
            is_so g = ap (λ (v : Option Row). elim v as (λ _. Bool) [ None ↦ false | Some x ↦ g x.branch ]) i

            told : (b : Bool) → r.branch.prepared ≡ b → (has_said is_prepare_record (said_to p (performed xs (prepare_each t.rows ++ ys)).1) || row_holds t.rows p is_told) ≡ row_holds t.rows p (λ b. true)
            told true j = ap (λ (b : Bool). has_said is_prepare_record (said_to p (performed xs (prepare_each t.rows ++ ys)).1) || b) (is_so is_told ∙ j) ∙ or-true (has_said is_prepare_record (said_to p (performed xs (prepare_each t.rows ++ ys)).1)) ∙ sym some
            told false j =
                let new : row_holds t.rows p (λ b. not b.prepared) ≡ true = is_so (λ b. not b.prepared) ∙ ap not j in
                ap (λ (b : Bool). b || row_holds t.rows p is_told) (some_to p t.rows ys xs new (ap is_live (link_entered t w d.arcs p) ∙ live new)) ∙ sym some

    at_key : (x : Current) → (turned who f d c).next.current ≡ Some x → x.key ≡ c.key
    at_key x i = (left_is a.next x i).0 ∙ (passed_turn f t put).key

    at_mark : (x : Current) → (turned who f d c).next.current ≡ Some x → marked is_told p x ≡ row_holds t.rows p (λ b. true)
    at_mark x i = left_marked is_told p a.next x i ∙ ap (λ (rows : List Row). row_holds rows p is_told) (rows_settled (ask_commit t).next) ∙ told_all p t.rows

-- ---- every legal history

told_step : (o : Origin) (up : Option Addr) (h : List Entry) (v : Event) (p : ℕ) → IsLegal o up h → refusal o.who (digest o h) v ≡ None → hit_by asks_prepare v ≡ true → (u : Current) → (action o.who (digest o h) v).next.current ≡ Some u → IsToldStep o.who (digest o h) v p u
told_step o up h (Event.Do (Request.Prepare q)) p legal ok on u is = go (digest o h).current refl
  where
    d : Digest
    d = digest o h

    plain : refused_request o.who d (Request.Prepare q) ≡ None
    plain = plain_request o.who d (Request.Prepare q) ok

    k : IsAskable o.who d q
    k = askable o.who d q plain

    go : (w : Option Current) → d.current ≡ w → IsToldStep o.who d (Event.Do (Request.Prepare q)) p u
    go None i = absurd (idle_refused o.who d q plain i)
    go (Some c) i = prepare_step o.who d q p c i (late_law o up h legal.grown c i) k.live (branch_row o up h c q legal i k) u is
told_step o up h (Event.Do Request.Commit) p legal ok on u is = go (digest o h).current refl
  where
    d : Digest
    d = digest o h

    plain : refused_request o.who d Request.Commit ≡ None
    plain = plain_request o.who d Request.Commit ok

    go : (w : Option Current) → d.current ≡ w → IsToldStep o.who d (Event.Do Request.Commit) p u
    go None i = absurd (no_commit o.who d plain i)
    go (Some c) i = commit_step o.who d p c i active (refused_commit o.who d c plain i) live u is
      where
        active : is_active c.phase ≡ true
        active = afloat c.phase (late_law o up h legal.grown c i) (early o.who d c plain i)

        waits : (v : Option Row) → elim v as (λ _. Bool) [ None ↦ false | Some r ↦ not r.branch.prepared ] ≡ true → elim v as (λ _. Bool) [ None ↦ false | Some r ↦ is_hasty r.branch ] ≡ false → elim v as (λ _. Bool) [ None ↦ false | Some r ↦ is_pending r.branch ] ≡ true
        waits None h k = absurd (cc (h))
        waits (Some r) h k = grind (arith, h, k)

        live : row_holds (seen o.who d.arcs c).rows p (λ b. not b.prepared) ≡ true → is_live_with_peer d.arcs p ≡ true
        live new =
            reached_law o up h p legal c i active
            (sym (seen_marked is_pending p o.who d.arcs c) ∙ waits (find_row (seen o.who d.arcs c).rows p) new (seen_marked is_hasty p o.who d.arcs c ∙ proper_law o up h legal c i active p))
told_step o up h (Event.Arrive from r) p legal ok on u is = absurd (let off : hit_by asks_prepare (Event.Arrive from r) ≡ false = arrived r in cc (on, off))
  where
    arrived : (r : PeerRecord) → hit_by asks_prepare (Event.Arrive from r) ≡ false
    arrived (PeerRecord.RecCommit t b) = refl
    arrived r = refl
told_step o up h v p legal ok on u is = absurd (cc (on))

abbrev says_to : ℕ → Origin → NodeKey → Entry → List Entry → Bool
says_to p o k e h = has_said is_prepare_record (said_to p e.outs)

told_mark : (p : ℕ) → IsMark Bool false (marked is_told p) (λ o k h. some_since o k (says_to p o k) h) (λ o k e h b. says_to p o k e h || b)
told_mark p = record {
  fresh = λ k. refl;
  first = λ o up legal c is. again_marked is_told p (λ x. refl) (digest o []).current c (started_again o up c legal is);
  crash = λ o up e h legal crash c is. again_marked is_told p (λ x. refl) (digest o h).current c (sym (crash_next o e h crash) ∙ is) ∙ sym (rw (crash, some_since) refl);
  begun = λ o k e h calm begun. rw (calm, begun, some_since) refl;
  goes = λ o k e h calm off. rw (calm, off, some_since) refl;
  step = λ o up e h legal calm u is. step o up e h legal u is (hit_by asks_prepare e.event) refl;
  taken = λ o up e h legal k j begun. ap (λ (b : Bool). b || false) (made o up e h legal ∙ mute o.who (digest o h) e.event p (begun_calm asks_prepare (λ n t b y. refl) o h e.event e.rec e.outs j begun) (late_law o up h legal.grown.3) legal.grown.0);
}
  where
    made : (o : Origin) (up : Option Addr) (e : Entry) (h : List Entry) → IsLegal o up (e ∷ h) → has_said is_prepare_record (said_to p e.outs) ≡ says p (action o.who (digest o h) e.event)
    made o up e h legal = sym (ap (λ (x : Entry). has_said is_prepare_record (said_to p x.outs)) legal.grown.1)

    step : (o : Origin) (up : Option Addr) (e : Entry) (h : List Entry) → IsLegal o up (e ∷ h) → (u : Current) → (action o.who (digest o h) e.event).next.current ≡ Some u → (b : Bool) → hit_by asks_prepare e.event ≡ b
        → IsStep (marked is_told p) o.who (prelude o.who (digest o h) e.event) (has_said is_prepare_record (said_to p e.outs)) u
    step o up e h legal u is true on =
        subst (λ (b : Bool). IsStep (marked is_told p) o.who (prelude o.who (digest o h) e.event) b u) (sym (made o up e h legal)) (told_step o up h e.event p (before_it o up e h legal) legal.grown.0 on u is)
    step o up e h legal u is false off =
        subst (λ (b : Bool). IsStep (marked is_told p) o.who (prelude o.who (digest o h) e.event) b u) (sym (made o up e h legal)) (other_step o.who (digest o h) e.event p off (late_law o up h legal.grown.3) legal.grown.0 u is)

pub prepared_law : (o : Origin) (up : Option Addr) (h : List Entry) → IsLegal o up h → prepared_agrees o h ≡ true
prepared_law = each_law (λ b. b.prepared) (λ p o k e h. has_said is_prepare_record (said_to p e.outs)) (λ o up h legal p c is. mark_law Bool false (marked is_told p) (λ o k h. some_since o k (says_to p o k) h) (λ o k e h b. says_to p o k e h || b) (told_mark p) o up h legal c is)
