-- What every event of a transaction makes of its branches: an instance of the steps of a turn.
use Rattle.std.proofs.Common.{◌≡◌, ◌⊎◌, inl, inr, ℕ, Bool, true, false, refl, ap, sym, subst, ◌∙◌, arith, Option, Some, None, List, [], ◌&&◌, ◌||◌, ◌==◌, not}
use Rattle.std.proofs.lemmas.Bool.Decides.{nat_tests}
use Rattle.tp_names.specs.declared.outcome.Report.{Report}
use Rattle.tp_records.specs.declared.dialogue.DialogueRecord.{DialogueRecord}
use Rattle.tp_records.specs.declared.peer.RecState.{RecState}
use Rattle.tp_model.specs.declared.transaction.TxEvent.{TxEvent}
use Rattle.tp_model.specs.declared.transaction.TxOut.{TxOut}
use Rattle.tp_model.specs.Parts.{Branch}
use Rattle.tp_model.specs.Dialogues.{is_active, is_committing, is_rolling}
use Rattle.tp_model.specs.Transactions.{Row, Transaction, Turn, turn, and_then, before, is_under_at, find_row, find_row_by_id, row_holds, with_row, with_arc_lost, is_open_in_commit, complete_commit, complete_rollback, begin_rolling, order, ask_commit, leave, count_branch, end_branch, branch_left, transacted}
use Rattle.tp_steps.specs.Turns.{Turns, vote, decide, shut_given_up, row_dead, is_left_word}
use Rattle.tp_steps.specs.Moves.{IsPut}
use Rattle.tp_steps.specs.Branches.{may_count, may_leave, may_end, IsMoved, IsRowed}
use Rattle.tp_steps.proofs.every.EveryTurn.{every_turn}
use Rattle.tp_steps.proofs.words.Fair.{row_phase, row_with}
use Rattle.tp_steps.proofs.words.Leaves.{prepare_row}
use Rattle.std.proofs.lemmas.Bool.{or_left}
use Rattle.tp_steps.proofs.lemmas.Options.{some_same}

moved_then : (e : TxEvent) (s : Transaction) (p : ℕ) (b c d : Branch) → IsMoved e s p b c → IsMoved e s p c d → IsMoved e s p b d
moved_then e s p b c d one two = record {
  id = two.id ∙ one.id;
  counted = λ h. over c.counted b.counted (may_count e s p) (two.counted h) one.counted;
  left = λ h. over c.left b.left (may_leave e s p) (two.left h) one.left;
  ended = λ h. over c.ended b.ended (may_end e s p) (two.ended h) one.ended;
}
  where
    over : (x y m : Bool) → (x || m) ≡ true → (x ≡ true → (y || m) ≡ true) → (y || m) ≡ true
    over true y m h f = f refl
    over false true m h f = refl
    over false false m h f = h

moved_flags : (e : TxEvent) (s : Transaction) (p : ℕ) (b n : Branch) → n.id ≡ b.id → n.counted ≡ b.counted → n.left ≡ b.left → n.ended ≡ b.ended → IsMoved e s p b n
moved_flags e s p b n id counted left ended = record {
  id = id;
  counted = λ h. or_left b.counted (may_count e s p) (sym counted ∙ h);
  left = λ h. or_left b.left (may_leave e s p) (sym left ∙ h);
  ended = λ h. or_left b.ended (may_end e s p) (sym ended ∙ h);
}

rowed_same : (e : TxEvent) (s t : Transaction) (outs : List TxOut) (u : Transaction) → u.rows ≡ t.rows → IsRowed e s t (turn outs u)
rowed_same e s t outs u same = record { rows = λ p n h. (n, ap (λ (rs : List Row). find_row rs p) (sym same) ∙ h, moved_flags e s p n.branch n.branch refl refl refl refl) }

rowed_next : (e : TxEvent) (s t : Transaction) (a : Turn) → a.next.rows ≡ t.rows → IsRowed e s t a
rowed_next e s t a same = record { rows = λ p n h. (n, ap (λ (rs : List Row). find_row rs p) (sym same) ∙ h, moved_flags e s p n.branch n.branch refl refl refl refl) }

-- one row changes
rowed_row : (e : TxEvent) (s t : Transaction) (a : Turn) (q : ℕ) (f : Row → Row) → a.next.rows ≡ (with_row t q f).rows → ((r : Row) → (f r).branch.peer.node ≡ r.branch.peer.node)
    → ((r : Row) → find_row t.rows q ≡ Some r → IsMoved e s q r.branch (f r).branch) → IsRowed e s t a
rowed_row e s t a q f is peer moves = record { rows = λ p n h. go p n (q == p) refl (ap (λ (rs : List Row). find_row rs p) (sym is) ∙ h) }
  where
    go : (p : ℕ) (n : Row) (b : Bool) → (q == p) ≡ b → find_row (with_row t q f).rows p ≡ Some n → (r : Row) × (find_row t.rows p ≡ Some r) × IsMoved e s p r.branch n.branch
    go p n false i h = (n, sym (row_with t q f p peer ∙ rw i refl) ∙ h, moved_flags e s p n.branch n.branch refl refl refl refl)
    go p n true i h = on (find_row t.rows p) refl
      where
        same : q ≡ p
        same = grind (arith, nat_tests, i)

        on : (o : Option Row) → find_row t.rows p ≡ o → (r : Row) × (find_row t.rows p ≡ Some r) × IsMoved e s p r.branch n.branch
        on None j = let none : find_row (with_row t q f).rows p ≡ None = row_with t q f p peer ∙ rw (i, j) refl in absurd (cc (none, h))
        on (Some r) j =
            let now : find_row (with_row t q f).rows p ≡ Some (f r) = row_with t q f p peer ∙ rw (i, j) refl in
            let is : f r ≡ n = some_same (f r) n (sym now ∙ h) in
            let at : find_row t.rows q ≡ Some r = ap (find_row t.rows) same ∙ j in
            (r, j, subst (λ (w : Row). IsMoved e s p r.branch w.branch) is (subst (λ (m : ℕ). IsMoved e s m r.branch (f r).branch) same (moves r at)))

-- one row changes, in none of its marks
rowed_quiet : (e : TxEvent) (s t : Transaction) (a : Turn) (q : ℕ) (f : Row → Row) → a.next.rows ≡ (with_row t q f).rows → ((r : Row) → (f r).branch.peer.node ≡ r.branch.peer.node)
    → ((r : Row) → (f r).branch.id ≡ r.branch.id) → ((r : Row) → (f r).branch.counted ≡ r.branch.counted) → ((r : Row) → (f r).branch.left ≡ r.branch.left) → ((r : Row) → (f r).branch.ended ≡ r.branch.ended) → IsRowed e s t a
rowed_quiet e s t a q f is peer id c l d = rowed_row e s t a q f is peer (λ r h. moved_flags e s q r.branch (f r).branch (id r) (c r) (l r) (d r))

rowed_lost : (e : TxEvent) (s t : Transaction) (outs : List TxOut) (q : ℕ) → IsRowed e s t (turn outs (with_arc_lost t q))
rowed_lost e s t outs q = go (is_under_at t.key q) refl
  where
    go : (b : Bool) → is_under_at t.key q ≡ b → IsRowed e s t (turn outs (with_arc_lost t q))
    go true i = rowed_next e s t (turn outs (with_arc_lost t q)) (rw (i, with_arc_lost) refl)
    go false i = rowed_quiet e s t (turn outs (with_arc_lost t q)) q row_dead (rw (i, with_arc_lost) refl) (λ r. refl) (λ r. refl) (λ r. refl) (λ r. refl) (λ r. refl)

-- ---- the rules

rowed_commit : (e : TxEvent) (s t : Transaction) → IsRowed e s t (complete_commit t)
unfolding complete_commit
rowed_commit e s t = rowed_next e s t (complete_commit t) (grind arith)

rowed_rollback : (e : TxEvent) (s t : Transaction) → IsRowed e s t (complete_rollback t)
unfolding complete_rollback
rowed_rollback e s t = rowed_next e s t (complete_rollback t) (grind arith)

rowed_rolling : (e : TxEvent) (s t : Transaction) (asked : Bool) → IsRowed e s t (begin_rolling asked t)
unfolding begin_rolling
rowed_rolling e s t asked = rowed_next e s t (begin_rolling asked t) refl

rowed_order : (e : TxEvent) (s t : Transaction) → IsRowed e s t (order t)
unfolding order
rowed_order e s t = rowed_next e s t (order t) refl

rowed_leave : (e : TxEvent) (s t : Transaction) → IsRowed e s t (leave t)
unfolding leave
rowed_leave e s t = rowed_next e s t (leave t) refl

rowed_ask : (e : TxEvent) (s t : Transaction) → IsRowed e s t (ask_commit t)
unfolding ask_commit
rowed_ask e s t = record { rows = λ p n h. go p n (find_row t.rows p) refl (sym (prepare_row p t.rows) ∙ h) }
  where
    go : (p : ℕ) (n : Row) (o : Option Row) → find_row t.rows p ≡ o → elim (find_row t.rows p) as (λ _. Option Row) [ None ↦ None | Some r ↦ Some (record r { branch = record r.branch { prepared = true } }) ] ≡ Some n
        → (r : Row) × (find_row t.rows p ≡ Some r) × IsMoved e s p r.branch n.branch
    go p n None i h = absurd (grind (arith, h, i))
    go p n (Some r) i h =
        let one : Some (record r { branch = record r.branch { prepared = true } }) ≡ Some n = rw i at h in
        let same = some_same (record r { branch = record r.branch { prepared = true } }) n one in
        (r, i, subst (λ (w : Row). IsMoved e s p r.branch w.branch) same (moved_flags e s p r.branch (record r.branch { prepared = true }) refl refl refl refl))

rowed_count : (e : TxEvent) (s : Transaction) (q : ℕ) → may_count e s q ≡ true → IsRowed e s s (count_branch q s)
unfolding count_branch
rowed_count e s q may = rowed_row e s s (count_branch q s) q (λ r. record r { branch = record r.branch { counted = true } }) refl (λ r. refl) (λ r at. record {
  id = refl;
  counted = λ h. rw may (grind arith);
  left = λ h. or_left r.branch.left (may_leave e s q) h;
  ended = λ h. or_left r.branch.ended (may_end e s q) h;
})

rowed_end : (e : TxEvent) (s t : Transaction) (q : ℕ) (x : Report) → may_end e s q ≡ true → IsRowed e s t (end_branch q x t)
unfolding end_branch
rowed_end e s t q x may = rowed_row e s t (end_branch q x t) q (λ r. record r { branch = record r.branch { ended = true; report = x } }) refl (λ r. refl) (λ r at. record {
  id = refl;
  counted = λ h. or_left r.branch.counted (may_count e s q) h;
  left = λ h. or_left r.branch.left (may_leave e s q) h;
  ended = λ h. rw may (grind arith);
})

rowed_left : (e : TxEvent) (s t : Transaction) (q : ℕ) → may_leave e s q ≡ true → IsRowed e s t (branch_left q t)
unfolding branch_left
rowed_left e s t q may = rowed_row e s t (branch_left q t) q (λ r. record r { branch = record r.branch { left = true } }) refl (λ r. refl) (λ r at. record {
  id = refl;
  counted = λ h. or_left r.branch.counted (may_count e s q) h;
  left = λ h. rw may (grind arith);
  ended = λ h. or_left r.branch.ended (may_end e s q) h;
})

-- ---- what the event is

counts_may : (e : TxEvent) (s : Transaction) (q : ℕ) → e ≡ TxEvent.Took q DialogueRecord.Ready → is_active s.phase ≡ true → row_holds s.rows q (λ b. b.prepared && not b.counted) ≡ true → may_count e s q ≡ true
counts_may e s q is act row = ap (λ (f : TxEvent). may_count f s q) is ∙ rw (act, row) (grind (arith, nat_tests))

pub done_may : (e : TxEvent) (s : Transaction) (q : ℕ) (r : Report) → e ≡ TxEvent.Took q (DialogueRecord.Done r) → is_committing s.phase ≡ true → may_end e s q ≡ true
done_may e s q r is c = ap (λ (f : TxEvent). may_end f s q) is ∙ rw c (grind (arith, nat_tests))

pub rolled_may : (e : TxEvent) (s : Transaction) (q : ℕ) (r : Report) → e ≡ TxEvent.Took q (DialogueRecord.RolledBack r) → is_rolling s.phase ≡ true → may_end e s q ≡ true
rolled_may e s q r is c = ap (λ (f : TxEvent). may_end f s q) is ∙ rw c (grind (arith, nat_tests))

pub reply_may : (e : TxEvent) (s : Transaction) (b : _) (w : Row) (r : Report) → e ≡ TxEvent.Reply b (RecState.Done r) → find_row_by_id s.rows b ≡ Some w → is_open_in_commit s w.branch ≡ true → may_end e s w.branch.peer.node ≡ true
reply_may e s b w r is found o = ap (λ (f : TxEvent). may_end f s w.branch.peer.node) is ∙ rw (found, may_end) (grind (arith, nat_tests, o))

same_phase : (s t : Transaction) (q : ℕ) → (t ≡ s) ⊎ (t ≡ with_row s q row_dead) → t.phase ≡ s.phase
same_phase s t q (inl i) = ap (λ (u : Transaction). u.phase) i
same_phase s t q (inr i) = ap (λ (u : Transaction). u.phase) i ∙ row_phase s q row_dead

pub left_may : (e : TxEvent) (s t : Transaction) (q : ℕ) (w : DialogueRecord) → e ≡ TxEvent.Took q w → is_left_word w ≡ true → (t ≡ s) ⊎ (t ≡ with_row s q row_dead) → is_active t.phase ≡ true → may_leave e s q ≡ true
left_may e s t q DialogueRecord.Left is l at act = let p : is_active s.phase ≡ true = ap is_active (sym (same_phase s t q at)) ∙ act in ap (λ (f : TxEvent). may_leave f s q) is ∙ rw p (grind (arith, nat_tests))
left_may e s t q DialogueRecord.LeftEnd is l at act = let p : is_active s.phase ≡ true = ap is_active (sym (same_phase s t q at)) ∙ act in ap (λ (f : TxEvent). may_leave f s q) is ∙ rw p (grind (arith, nat_tests))
left_may e s t q w is l at act = absurd (cc (l))

pub left_end_may : (e : TxEvent) (s t : Transaction) (q : ℕ) (w : DialogueRecord) → e ≡ TxEvent.Took q w → is_left_word w ≡ true → (t ≡ s) ⊎ (t ≡ with_row s q row_dead) → is_rolling t.phase ≡ true → may_end e s q ≡ true
left_end_may e s t q DialogueRecord.Left is l at c = let p : is_rolling s.phase ≡ true = ap is_rolling (sym (same_phase s t q at)) ∙ c in ap (λ (f : TxEvent). may_end f s q) is ∙ rw p (grind (arith, nat_tests))
left_end_may e s t q DialogueRecord.LeftEnd is l at c = let p : is_rolling s.phase ≡ true = ap is_rolling (sym (same_phase s t q at)) ∙ c in ap (λ (f : TxEvent). may_end f s q) is ∙ rw p (grind (arith, nat_tests))
left_end_may e s t q w is l at c = absurd (cc (l))

-- ---- the steps

rowed_then : (e : TxEvent) (s t : Transaction) (a b : Turn) (m : Turn) → m.next ≡ b.next → IsRowed e s t a → IsRowed e s a.next b → IsRowed e s t m
rowed_then e s t a b m same one two = record {
  rows = λ p n h.
      let y = two.rows p n (ap (λ (u : Transaction). find_row u.rows p) (sym same) ∙ h) in
      let x = one.rows p y.0 y.1 in
      (x.0, x.1, moved_then e s p x.0.branch y.0.branch n.branch x.2 y.2);
}

rowed_turns : (e : TxEvent) (s : Transaction) → Turns e s (IsRowed e s)
rowed_turns e s = record {
  still = λ t. rowed_same e s t [] t refl;
  first = λ t u outs a one two. rowed_then e s t (turn outs u) a (before outs a) refl one two;
  chain = λ t a f one two none. rowed_then e s t a (f a.next) (and_then a f) refl one two;
  tells = λ t i n. rowed_same e s t _ t refl;
  notes_prepare = λ pr cl. rowed_same e s s _ _ refl;
  notes_done = λ is. rowed_same e s s _ _ refl;
  notes_end = λ q is. rowed_same e s s _ _ refl;
  notes_rollback = λ ro cl. rowed_same e s s _ _ refl;
  defers_end = λ q is. rowed_quiet e s s _ q (λ r. record r { ends = true }) refl (λ r. refl) (λ r. refl) (λ r. refl) (λ r. refl) (λ r. refl);
  defers_grant = λ q is. rowed_same e s s _ _ refl;
  prepares = λ q. rowed_quiet e s s _ q (λ r. record r { branch = record r.branch { prepared = true } }) refl (λ r. refl) (λ r. refl) (λ r. refl) (λ r. refl) (λ r. refl);
  asks = λ is act asked told. rowed_ask e s s;
  asks_again = rowed_same e s s _ _ refl;
  decides = λ o is ready. rowed_next e s s (decide o s) refl;
  aborts = λ q is. rowed_lost e s s _ q;
  loses_arc = λ q gone. rowed_lost e s s _ q;
  closes_left = λ q is. rowed_quiet e s s _ q row_dead refl (λ r. refl) (λ r. refl) (λ r. refl) (λ r. refl) (λ r. refl);
  gives_up = λ q r is c found. rowed_quiet e s s (shut_given_up q r s) q (λ w. record w { branch = record w.branch { given_up = true }; live = false; ends = false }) refl (λ w. refl) (λ w. refl) (λ w. refl) (λ w. refl) (λ w. refl);
  counts = λ q is act row. rowed_count e s q (counts_may e s q is act row);
  ends_done = λ q r is c row. rowed_end e s s q r (done_may e s q r is c);
  ends_replied = λ b w r is found o. rowed_end e s s w.branch.peer.node r (reply_may e s b w r is found o);
  ends_rolled = λ q r is c row. rowed_end e s s q r (rolled_may e s q r is c);
  leaves_below = λ q w t is left at act. rowed_left e s t q (left_may e s t q w is left at act);
  leaves_rolling = λ q w t is left at c. rowed_end e s t q Report.None (left_end_may e s t q w is left at c);
  votes = λ t act asked all under. rowed_next e s t (vote t) refl;
  orders_root = λ t act asked all root. rowed_order e s t;
  orders_ready = λ ready is. rowed_order e s s;
  rolls = λ t asked f ok. rowed_rolling e s t asked;
  completes_commit = λ t c. rowed_commit e s t;
  completes_rollback = λ t c. rowed_rollback e s t;
  leaves = λ is act under asked all. rowed_leave e s s;
}

-- every event of a transaction
pub rowed_turn : (e : TxEvent) (s : Transaction) → IsPut e s → IsRowed e s s (transacted e s)
rowed_turn e s put = every_turn e s (IsRowed e s) (rowed_turns e s) put
