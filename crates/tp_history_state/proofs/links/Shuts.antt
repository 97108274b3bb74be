-- Which associations an event of a transaction ends: those whose end is deferred, where the user is told that a commitment is
-- complete, and the one that the event itself ends. An instance of the steps of a turn.
use Rattle.tp_history_state.proofs.Vocabulary.{if◌then◌else◌, ◌≡◌, ◌+◌, ◌⊎◌, inl, inr, ℕ, Bool, true, false, refl, ap, sym, ◌∙◌, arith, Option, Some, List, [], ◌∷◌, ◌++◌, ◌&&◌, ◌||◌, ◌==◌, nat_tests, Aaid, Report, Request, Indication, DialogueRecord, LogRec, TxEvent, TxOut, Who, Link, Idle, Arc, Key, Root, Under, Branch, Current, Digest, Sight, Acts, Nothing_happens, Out_of_phase, link_with, performed_one, performed, Row, Transaction, Turn, turn, and_then, aaid_of, is_under_at, find_row, put_row, with_row, with_arc_lost, all_prepared, all_done, carry_up, carry_down, forgets, done_up, ends_down, end_up, ask_each, retried, prepare_each, complete_commit, complete_rollback, begin_rolling, order, ask_commit, count_branch, end_branch, branch_left, sight_of_tx, takes, transacted, has_branch_at, is_end_deferred_at, is_leaving, seen, seen_rows, is_up_ending, committed_arcs, grants, perform_commit, Passage, played, sent_more, Turns, loses, is_outcome_told, vote, row_dead, shut_given_up, IsPut, are_apart, asks_tell, count_to, apart_grants, every_turn, and_left, and_right, row_is, count_append, more_none, more_more, link_dialogues, link_without, carried_elsewhere, link_elsewhere, link_here, recovery_silent, shut_silent, tell_append, still_up, still_prepare, around_grants, parts_apart, IsWhole, link_left, Falls_at_once, Rolls_back, Leaves, Commits, part_by_part}
use Rattle.tp_steps.specs.Moves.{is_apart}
use Rattle.tp_history_state.proofs.passages.Passage.{is_committed_told}
use Rattle.tp_history_state.proofs.lemmas.Tells.{ordering_tells, rolls_untold, completion_tells, unrolling_tells, retried_tells}

-- ---- outputs that end the association with a peer

abbrev pub shuts_in : ℕ → List TxOut → Bool
shuts_in p [] = false
shuts_in p (TxOut.Tell i ∷ outs) = shuts_in p outs
shuts_in p (TxOut.Carry q r ∷ outs) = shuts_in p outs
shuts_in p (TxOut.Shut q ∷ outs) = (q == p) || shuts_in p outs
shuts_in p (TxOut.Recovery a r ∷ outs) = shuts_in p outs
shuts_in p (TxOut.Close q ∷ outs) = (q == p) || shuts_in p outs

pub shuts_append : (p : ℕ) (xs ys : List TxOut) → shuts_in p (xs ++ ys) ≡ (shuts_in p xs || shuts_in p ys)
shuts_append p [] ys = refl
shuts_append p (x ∷ xs) ys = grind (arith, shuts_append p xs ys)

abbrev pub over_link : Bool → ℕ → Link → Link
over_link b n l = if b then Idle else sent_more n l

pub over_then : (a b : Bool) (m n : ℕ) (l : Link) → over_link b n (over_link a m l) ≡ over_link (a || b) (m + n) l
over_then a b m n l = grind (arith, more_more)

shuts_one : (arcs : List Arc) (o : TxOut) (p : ℕ) → is_apart o ≡ true → link_with (performed_one arcs o).0 p ≡ over_link (shuts_in p (o ∷ [])) (count_to p (performed_one arcs o).1) (link_with arcs p)
shuts_one arcs o p h1 = grind (arith, nat_tests, carried_elsewhere, link_elsewhere, link_here, link_without, more_none, recovery_silent, shut_silent)

pub shuts_performed : (arcs : List Arc) (outs : List TxOut) (p : ℕ) → are_apart outs ≡ true → link_with (performed arcs outs).0 p ≡ over_link (shuts_in p outs) (count_to p (performed arcs outs).1) (link_with arcs p)
shuts_performed arcs [] p h = sym (more_none (link_with arcs p))
shuts_performed arcs (o ∷ outs) p h =
    let one = performed_one arcs o in
    let two = performed one.0 outs in
    shuts_performed one.0 outs p (and_right (is_apart o) (are_apart outs) h)
    ∙ ap (over_link (shuts_in p outs) (count_to p two.1)) (shuts_one arcs o p (and_left (is_apart o) (are_apart outs) h))
    ∙ over_then (shuts_in p (o ∷ [])) (shuts_in p outs) (count_to p one.1) (count_to p two.1) (link_with arcs p)
    ∙ joined (shuts_in p (o ∷ []) || shuts_in p outs) (shuts_in p (o ∷ outs)) (count_to p one.1 + count_to p two.1) (count_to p (one.1 ++ two.1)) (sym (shuts_append p (o ∷ []) outs)) (sym (count_append p one.1 two.1))
  where
    joined : (a b : Bool) (m n : ℕ) → a ≡ b → m ≡ n → over_link a m (link_with arcs p) ≡ over_link b n (link_with arcs p)
    joined a b m n i j = rw (i, j) refl

shuts_grants : (p : ℕ) (t : Transaction) (arcs : List Arc) → shuts_in p (grants t arcs) ≡ false
shuts_grants p t [] = refl
shuts_grants p t (a ∷ arcs) = grind (arith, shuts_grants p t arcs)

shuts_commit : (d : Digest) (t : Transaction) (s : List TxOut × List TxOut) (arcs : List Arc) (p : ℕ) → are_apart (s.0 ++ s.1) ≡ true → link_with (perform_commit d t s arcs).0 p ≡ over_link (shuts_in p (s.0 ++ s.1)) (count_to p (perform_commit d t s arcs).1) (link_with arcs p)
shuts_commit d t s arcs p h =
    let parts = parts_apart s h in
    let one = performed arcs s.0 in
    let mid : List Arc = committed_arcs d t one.0 in
    let two = performed mid (grants t one.0) in
    let three = performed two.0 s.1 in
    let first : link_with one.0 p ≡ over_link (shuts_in p s.0) (count_to p one.1) (link_with arcs p) = shuts_performed arcs s.0 p (and_left (are_apart s.0) (are_apart s.1) parts) in
    let second : link_with two.0 p ≡ over_link false (count_to p two.1) (link_with one.0 p) = shuts_performed mid (grants t one.0) p (apart_grants t one.0) ∙ rw (shuts_grants p t one.0, link_dialogues one.0 _ _ p) refl in
    let third : link_with three.0 p ≡ over_link (shuts_in p s.1) (count_to p three.1) (link_with two.0 p) = shuts_performed two.0 s.1 p (and_right (are_apart s.0) (are_apart s.1) parts) in
    third ∙ ap (over_link (shuts_in p s.1) (count_to p three.1)) (second ∙ ap (over_link false (count_to p two.1)) first ∙ over_then (shuts_in p s.0) false (count_to p one.1) (count_to p two.1) (link_with arcs p))
    ∙ over_then (shuts_in p s.0 || false) (shuts_in p s.1) (count_to p one.1 + count_to p two.1) (count_to p three.1) (link_with arcs p)
    ∙ joined (shuts_in p s.0) (shuts_in p s.1) (count_to p one.1 + count_to p two.1 + count_to p three.1) (count_to p (one.1 ++ two.1 ++ three.1)) (sym (count_append p (one.1 ++ two.1) three.1 ∙ ap (λ (n : ℕ). n + count_to p three.1) (count_append p one.1 two.1))) (sym (shuts_append p s.0 s.1))
  where
    joined : (a b : Bool) (m n : ℕ) {c : Bool} → m ≡ n → (a || b) ≡ c → over_link ((a || false) || b) m (link_with arcs p) ≡ over_link c n (link_with arcs p)
    joined true b m n i j = ap (λ (v : Bool). over_link v n (link_with arcs p)) j
    joined false b m n i j = ap (λ (k : ℕ). over_link b k (link_with arcs p)) i ∙ ap (λ (v : Bool). over_link v n (link_with arcs p)) j

pub shuts_played : (d : Digest) (t : Transaction) (w : Passage) (asks : Turn) → IsWhole asks → (arcs : List Arc) (p : ℕ) → are_apart asks.outs ≡ true → link_with (played d t w asks arcs).0 p ≡ over_link (shuts_in p asks.outs) (count_to p (played d t w asks arcs).1) (link_with arcs p)
unfolding played
shuts_played d t Commits asks whole arcs p h =
    let s = around_grants asks in
    shuts_commit d t s arcs p (ap are_apart whole ∙ h) ∙ ap (λ (l : List TxOut). over_link (shuts_in p l) (count_to p (perform_commit d t s arcs).1) (link_with arcs p)) whole
shuts_played d t Falls_at_once asks whole arcs p h = link_dialogues _ _ _ p ∙ shuts_performed arcs asks.outs p h
shuts_played d t Rolls_back asks whole arcs p h = link_dialogues _ _ _ p ∙ shuts_performed arcs asks.outs p h
shuts_played d t Leaves asks whole arcs p h = link_left t (performed arcs asks.outs).0 p ∙ shuts_performed arcs asks.outs p h
shuts_played d t _ asks whole arcs p h = shuts_performed arcs asks.outs p h

-- ---- ends that are deferred, as a transaction sees them

abbrev pub any_ends : ℕ → List Row → Bool
any_ends p [] = false
any_ends p (r ∷ rs) = ((r.branch.peer.node == p) && r.ends) || any_ends p rs

abbrev pub ends_at : ℕ → Transaction → Bool
ends_at p t = (is_under_at t.key p && t.up_ends) || any_ends p t.rows

pub put_ends : (p : ℕ) (rows : List Row) (q : ℕ) (r a : Row) → find_row rows q ≡ Some r → a.branch.peer.node ≡ r.branch.peer.node → ((q == p) ≡ false) ⊎ (a.ends ≡ r.ends) → any_ends p (put_row rows a) ≡ any_ends p rows
put_ends p [] q r a h same k = refl
put_ends p (w ∷ rows) q r a h same k = go (w.branch.peer.node == a.branch.peer.node) refl (w.branch.peer.node == q) refl (put_ends p rows q r a)
  where
    at_row : r.branch.peer.node ≡ q
    at_row = row_is (w ∷ rows) q r h

    here : w ≡ r → ((q == p) ≡ false) ⊎ (a.ends ≡ r.ends) → ((a.branch.peer.node == p) && a.ends) ≡ ((w.branch.peer.node == p) && w.ends)
    here i (inl off) =
        let one : (w.branch.peer.node == p) ≡ false = ap (λ (v : Row). v.branch.peer.node == p) i ∙ ap (λ (n : ℕ). n == p) at_row ∙ off in
        let two : (a.branch.peer.node == p) ≡ false = ap (λ (n : ℕ). n == p) (same ∙ at_row) ∙ off in
        rw (one, two) refl
    here i (inr is) = ap (λ (v : Bool). (a.branch.peer.node == p) && v) is ∙ ap (λ (n : ℕ). (n == p) && r.ends) same ∙ ap (λ (v : Row). (v.branch.peer.node == p) && v.ends) (sym i)

    go : (u : Bool) → (w.branch.peer.node == a.branch.peer.node) ≡ u → (v : Bool) → (w.branch.peer.node == q) ≡ v
        → (find_row rows q ≡ Some r → a.branch.peer.node ≡ r.branch.peer.node → ((q == p) ≡ false) ⊎ (a.ends ≡ r.ends) → any_ends p (put_row rows a) ≡ any_ends p rows)
        → any_ends p (if u then a ∷ rows else w ∷ put_row rows a) ≡ any_ends p (w ∷ rows)
    go true i true j rest = ap (λ (v : Bool). v || any_ends p rows) (here (found (rw j at h)) k)
      where
        found : Some w ≡ Some r → w ≡ r
        found e = cc (e)
    go true i false j rest = absurd (let on : (w.branch.peer.node == q) ≡ true = ap (λ (n : ℕ). w.branch.peer.node == n) (sym at_row ∙ sym same) ∙ i in cc (on, j))
    go false i true j rest = absurd (let on : (w.branch.peer.node == a.branch.peer.node) ≡ true = ap (λ (n : ℕ). w.branch.peer.node == n) (same ∙ at_row) ∙ j in cc (on, i))
    go false i false j rest = ap (λ (v : Bool). (w.branch.peer.node == p) && w.ends || v) (rest (rw j at h) same k)

-- a change of a row
ends_row : (p q : ℕ) (t : Transaction) (f : Row → Row) → ((r : Row) → (f r).branch.peer.node ≡ r.branch.peer.node) → ((q == p) ≡ false) ⊎ ((r : Row) → (f r).ends ≡ r.ends) → ends_at p (with_row t q f) ≡ ends_at p t
ends_row p q t f same k = grind (arith, put_ends)

ends_lost : (p q : ℕ) (t : Transaction) → (q == p) ≡ false → ends_at p (with_arc_lost t q) ≡ ends_at p t
ends_lost p q t off = grind (arith, nat_tests, ends_row)

ends_prepared : (p : ℕ) (rows : List Row) → any_ends p (all_prepared rows) ≡ any_ends p rows
ends_prepared p [] = refl
ends_prepared p (r ∷ rows) = ap (λ (v : Bool). (r.branch.peer.node == p) && r.ends || v) (ends_prepared p rows)

-- ---- what an event of a transaction ends

pub record IsClosing (p : ℕ) (t : Transaction) (a : Turn) : Type 0 where
  pub shuts : shuts_in p a.outs ≡ (ends_at p t && asks_tell is_committed_told a.outs)
  pub ends : ends_at p a.next ≡ ends_at p t

none_and : (x : Bool) → false ≡ (x && false)
none_and true = refl
none_and false = refl

closing_quiet : (p : ℕ) (t : Transaction) (a : Turn) → shuts_in p a.outs ≡ false → asks_tell is_committed_told a.outs ≡ false → ends_at p a.next ≡ ends_at p t → IsClosing p t a
closing_quiet p t a none untold same = record { shuts = none ∙ none_and (ends_at p t) ∙ ap (λ (v : Bool). ends_at p t && v) (sym untold); ends = same }

closing_then : (p : ℕ) (t : Transaction) (a b : Turn) (r : Option LogRec) → IsClosing p t a → IsClosing p a.next b → IsClosing p t (record { rec = r; outs = a.outs ++ b.outs; completion = part_by_part a.completion b.completion; next = b.next })
closing_then p t a b r one two = record {
  shuts =
      shuts_append p a.outs b.outs ∙ rw (one.shuts, two.shuts, one.ends, tell_append is_committed_told a.outs b.outs) (flat (ends_at p t) (asks_tell is_committed_told a.outs) (asks_tell is_committed_told b.outs));
  ends = two.ends ∙ one.ends;
}
  where
    flat : (x y z : Bool) → ((x && y) || (x && z)) ≡ (x && (y || z))
    flat true y z = refl
    flat false y z = refl

pub shutless_up : (p : ℕ) (t : Transaction) (r : DialogueRecord) → shuts_in p (carry_up t r) ≡ false
shutless_up p t r = grind arith

shutless_down : (p : ℕ) (rows : List Row) (r : DialogueRecord) → shuts_in p (carry_down rows r) ≡ false
shutless_down p [] r = refl
shutless_down p (w ∷ rows) r = grind (arith, shutless_down p rows r)

shutless_prepare : (p : ℕ) (rows : List Row) → shuts_in p (prepare_each rows) ≡ false
shutless_prepare p [] = refl
shutless_prepare p (w ∷ rows) = grind (arith, shutless_prepare p rows)

shutless_forgets : (p : ℕ) (a : Aaid) (rows : List Row) → shuts_in p (forgets a rows) ≡ false
shutless_forgets p a [] = refl
shutless_forgets p a (w ∷ rows) = grind (arith, shutless_forgets p a rows)

shutless_ask : (p : ℕ) (a : Aaid) (rows : List Row) → shuts_in p (ask_each a rows) ≡ false
shutless_ask p a [] = refl
shutless_ask p a (w ∷ rows) = grind (arith, shutless_ask p a rows)

shutless_done : (p : ℕ) (t : Transaction) (r : Report) → shuts_in p (done_up t r) ≡ false
shutless_done p t r = grind arith

ends_shut : (p : ℕ) (rows : List Row) → shuts_in p (ends_down rows) ≡ any_ends p rows
ends_shut p [] = refl
ends_shut p (w ∷ rows) = grind (arith, ends_shut p rows)

pub up_shut : (p : ℕ) (t : Transaction) → shuts_in p (end_up t) ≡ (is_under_at t.key p && t.up_ends)
up_shut p t = grind (arith, none_and)

shutless_retried : (p : ℕ) (t : Transaction) → shuts_in p (retried t) ≡ false
shutless_retried p t = let a = shutless_ask p (aaid_of t.key) t.rows in grind (arith, shuts_append, a)

closing_order : (p : ℕ) (t : Transaction) → IsClosing p t (order t)
unfolding order
closing_order p t = closing_quiet p t (order t) (shuts_append p (carry_down t.rows DialogueRecord.Commit) (TxOut.Tell Indication.Commit ∷ []) ∙ rw (shutless_down p t.rows DialogueRecord.Commit) refl) (ordering_tells is_committed_told t) refl

closing_rolls : (p : ℕ) (t : Transaction) (asked : Bool) → IsClosing p t (begin_rolling asked t)
unfolding begin_rolling
closing_rolls p t asked = grind (arith, rolls_untold, shutless_down, shutless_up, shuts_append)

pub closing_commits : (p : ℕ) (t : Transaction) → IsClosing p t (complete_commit t)
unfolding complete_commit
closing_commits p t = grind (arith, all_done, completion_tells, done_up, ends_shut, shutless_done, shutless_forgets, shuts_append, up_shut)

closing_unrolls : (p : ℕ) (t : Transaction) → IsClosing p t (complete_rollback t)
unfolding complete_rollback
closing_unrolls p t = grind (arith, shutless_up, shuts_append, unrolling_tells)

closing_report : (p q : ℕ) (r : Report) (t : Transaction) → IsClosing p t (end_branch q r t)
unfolding end_branch
closing_report p q r t = closing_quiet p t (end_branch q r t) (grind arith) (grind arith) (ends_row p q t (λ w. record w { branch = record w.branch { ended = true; report = r } }) (λ w. refl) (inr (λ w. refl)))

-- the event itself ends the association with the peer
abbrev pub closes_by : TxEvent → ℕ → Bool
closes_by (TxEvent.User (Request.UAbort q)) p = q == p
closes_by (TxEvent.Took q DialogueRecord.LeftEnd) p = q == p
closes_by (TxEvent.Took q DialogueRecord.UAbort) p = q == p
closes_by (TxEvent.Lost q) p = q == p
closes_by (TxEvent.GiveUp q) p = q == p
closes_by _ p = false

-- it puts an end off
abbrev pub puts_off_end : TxEvent → Bool
puts_off_end (TxEvent.User (Request.DeferEnd q)) = true
puts_off_end (TxEvent.Took q DialogueRecord.DeferEnd) = true
puts_off_end _ = false

closing_turns : (p : ℕ) (e : TxEvent) (s : Transaction) → is_leaving e ≡ false → closes_by e p ≡ false → puts_off_end e ≡ false → Turns e s (IsClosing p)
unfolding ask_commit count_branch branch_left
closing_turns p e s off other plain = record {
  still = λ t. closing_quiet p t (turn [] t) refl refl refl;
  first = λ t u outs a one two. closing_then p t (turn outs u) a a.rec one two;
  chain = λ t a f one two none. closing_then p t a (f a.next) (and_then a f).rec one two;
  tells = λ t i n. closing_quiet p t (turn (TxOut.Tell i ∷ []) t) refl (untold i n) refl;
  notes_prepare = λ pr h. closing_quiet p s _ refl refl refl;
  notes_done = λ is. closing_quiet p s _ refl refl refl;
  notes_end = λ q is. absurd (cc (ap puts_off_end is, plain));
  notes_rollback = λ ro h. closing_quiet p s _ refl refl refl;
  defers_end = λ q is. absurd (cc (ap puts_off_end is, plain));
  defers_grant = λ q is. closing_quiet p s _ refl refl refl;
  prepares = λ q. closing_quiet p s _ refl refl (ends_row p q s (λ r. record r { branch = record r.branch { prepared = true } }) (λ r. refl) (inr (λ r. refl)));
  asks = λ is act asked told. closing_quiet p s (ask_commit s) (shutless_prepare p s.rows) ((still_prepare s.rows).1 is_committed_told) (ap (λ (v : Bool). (is_under_at s.key p && s.up_ends) || v) (ends_prepared p s.rows));
  asks_again = closing_quiet p s (turn (retried s) s) (shutless_retried p s) (retried_tells is_committed_told s refl) refl;
  decides = λ o is ready. closing_quiet p s _ refl refl refl;
  aborts = λ q is. let n : (q == p) ≡ false = sym (ap (λ (f : TxEvent). closes_by f p) is) ∙ other in closing_quiet p s _ (rw n refl) refl (ends_lost p q s n);
  loses_arc = λ q gone. let n : (q == p) ≡ false = lost e q gone other in closing_quiet p s _ refl refl (ends_lost p q s n);
  closes_left = λ q is. let n : (q == p) ≡ false = sym (ap (λ (f : TxEvent). closes_by f p) is) ∙ other in closing_quiet p s _ (rw n refl) refl (ends_row p q s row_dead (λ r. refl) (inl n));
  gives_up = λ q r is c found. let n : (q == p) ≡ false = sym (ap (λ (f : TxEvent). closes_by f p) is) ∙ other in closing_quiet p s (shut_given_up q r s) (given r.live q n) (grind arith) (ends_row p q s (λ w. record w { branch = record w.branch { given_up = true }; live = false; ends = false }) (λ w. refl) (inl n));
  counts = λ q is act row. closing_quiet p s _ refl refl (ends_row p q s (λ r. record r { branch = record r.branch { counted = true } }) (λ r. refl) (inr (λ r. refl)));
  ends_done = λ q r is c row. closing_report p q r s;
  ends_replied = λ b w r is found o. closing_report p w.branch.peer.node r s;
  ends_rolled = λ q r is c row. closing_report p q r s;
  leaves_below = λ q w t is left at act. closing_quiet p t _ refl refl (ends_row p q t (λ r. record r { branch = record r.branch { left = true } }) (λ r. refl) (inr (λ r. refl)));
  leaves_rolling = λ q w t is left at c. closing_report p q Report.None t;
  votes = λ t act asked all under. closing_quiet p t (vote t) (shutless_up p t DialogueRecord.Ready) ((still_up t DialogueRecord.Ready refl).1 is_committed_told) refl;
  orders_root = λ t act asked all root. closing_order p t;
  orders_ready = λ ready is. closing_order p s;
  rolls = λ t asked f ok. closing_rolls p t asked;
  completes_commit = λ t c. closing_commits p t;
  completes_rollback = λ t c. closing_unrolls p t;
  leaves = λ is act under asked all. absurd (cc (ap is_leaving is, off));
}
  where
    untold : (i : Indication) → is_outcome_told i ≡ false → asks_tell is_committed_told (TxOut.Tell i ∷ []) ≡ false
    untold (Indication.CommitComplete r) h = absurd (cc (h))
    untold i h = refl

    lost : (e : TxEvent) (q : ℕ) → loses e q ≡ true → closes_by e p ≡ false → (q == p) ≡ false
    lost (TxEvent.Lost n) q gone h = grind (arith, nat_tests, gone, h)
    lost (TxEvent.Took n DialogueRecord.UAbort) q gone h = grind (arith, nat_tests, gone, h)
    lost e q gone h = absurd (grind (arith, gone))

    given : (b : Bool) (q : ℕ) → (q == p) ≡ false → shuts_in p (if b then TxOut.Shut q ∷ [] else []) ≡ false
    given true q n = rw n refl
    given false q n = refl

-- of every event that is no leaving, and does not end that association by itself
pub closing_turn : (p : ℕ) (e : TxEvent) (s : Transaction) → is_leaving e ≡ false → closes_by e p ≡ false → IsPut e s → shuts_in p (transacted e s).outs ≡ (ends_at p s && asks_tell is_committed_told (transacted e s).outs)
closing_turn p e s off other put = go (puts_off_end e) refl
  where
    go : (b : Bool) → puts_off_end e ≡ b → shuts_in p (transacted e s).outs ≡ (ends_at p s && asks_tell is_committed_told (transacted e s).outs)
    go false i = (every_turn e s (IsClosing p) (closing_turns p e s off other i) put).shuts
    go true i = let n = quiet_defer e s i in n.0 ∙ none_and (ends_at p s) ∙ ap (λ (v : Bool). ends_at p s && v) (sym n.1)
      where
        quiet_defer : (e : TxEvent) (s : Transaction) → puts_off_end e ≡ true → (shuts_in p (transacted e s).outs ≡ false) × (asks_tell is_committed_told (transacted e s).outs ≡ false)
        quiet_defer (TxEvent.User (Request.DeferEnd q)) s h = (refl, refl)
        quiet_defer (TxEvent.Took q DialogueRecord.DeferEnd) s h = on (sight_of_tx s q DialogueRecord.DeferEnd)
          where
            on : (v : Sight) → (shuts_in p (elim v as (λ _. Turn) [ Acts ↦ takes q DialogueRecord.DeferEnd s | Nothing_happens ↦ turn [] s | Out_of_phase ↦ turn [] s ]).outs ≡ false) × (asks_tell is_committed_told (elim v as (λ _. Turn) [ Acts ↦ takes q DialogueRecord.DeferEnd s | Nothing_happens ↦ turn [] s | Out_of_phase ↦ turn [] s ]).outs ≡ false)
            on Acts = (refl, refl)
            on _ = (refl, refl)
        quiet_defer e s h = absurd (grind (arith, h))

-- ---- as it is seen among the arcs

same_at : (arcs : List Arc) (n p : ℕ) → ((n == p) && is_end_deferred_at arcs n) ≡ ((n == p) && is_end_deferred_at arcs p)
same_at arcs n p = grind (arith, nat_tests)

pub up_ends_at : (arcs : List Arc) (k : Key) (p : ℕ) → (is_under_at k p && is_up_ending arcs k) ≡ (is_under_at k p && is_end_deferred_at arcs p)
up_ends_at arcs (Root t) p = refl
up_ends_at arcs (Under t b a) p = same_at arcs a.node p

rows_end_at : (arcs : List Arc) (bs : List Branch) (p : ℕ) → any_ends p (seen_rows arcs bs) ≡ (has_branch_at bs p && is_end_deferred_at arcs p)
rows_end_at arcs [] p = refl
rows_end_at arcs (b ∷ bs) p = rw (same_at arcs b.peer.node p, rows_end_at arcs bs p) (more (b.peer.node == p) (has_branch_at bs p) (is_end_deferred_at arcs p))
  where
    more : (x y z : Bool) → ((x && z) || (y && z)) ≡ ((x || y) && z)
    more x y z = grind arith

pub seen_ends : (who : Who) (arcs : List Arc) (c : Current) (p : ℕ) → ends_at p (seen who arcs c) ≡ ((is_under_at c.key p || has_branch_at c.branches p) && is_end_deferred_at arcs p)
seen_ends who arcs c p = grind (arith, rows_end_at, up_ends_at)
