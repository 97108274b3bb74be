-- How a transaction goes from phase to phase in an event: active and ready are left for nil only by a rollback or by leaving,
-- committing only with a record, and rolling is entered only by a rollback. An instance of the steps of a turn.
use Rattle.std.proofs.Common.{◌≡◌, ◌⊎◌, inl, inr, ℕ, Bool, true, false, refl, ap, sym, ◌∙◌, arith, Option, Some, None, [], ◌&&◌, ◌||◌, not}
use Rattle.tp_names.specs.declared.outcome.Report.{Report}
use Rattle.tp_records.specs.declared.request.Request.{Request}
use Rattle.tp_logrec.specs.declared.record.LogRec.{LogRec}
use Rattle.tp_model.specs.declared.arc.Phase.{Phase}
use Rattle.tp_model.specs.declared.transaction.TxEvent.{TxEvent}
use Rattle.tp_model.specs.Dialogues.{is_active, is_ready, is_committing, is_rolling}
use Rattle.tp_model.specs.Transactions.{Transaction, Turn, turn, all_done, all_rolled_back, complete_commit, complete_rollback, begin_rolling, order, ask_commit, leave, count_branch, end_branch, branch_left, retried, transacted}
use Rattle.tp_model.specs.Node.{is_leaving}
use Rattle.tp_steps.specs.Turns.{Turns, falls, vote, decide, shut_given_up, row_dead}
use Rattle.tp_steps.specs.Moves.{IsPut}
use Rattle.tp_steps.proofs.every.EveryTurn.{every_turn}
use Rattle.tp_steps.proofs.words.Fair.{row_phase}
use Rattle.tp_steps.proofs.words.FairTurns.{lost_phase}
use Rattle.tp_steps.proofs.branches.Staged.{is_some_rec, some_then}

-- ---- from phase to phase: whether the event rolls or leaves, and whether a record is forced

abbrev pub may_pass : Bool → Bool → Phase → Phase → Bool → Bool
may_pass f l Phase.Nil Phase.Nil u = true
may_pass f l Phase.Nil Phase.Active u = false
may_pass f l Phase.Nil Phase.Ready u = false
may_pass f l Phase.Nil Phase.Committing u = false
may_pass f l Phase.Nil Phase.Rolling u = false
may_pass f l Phase.Active Phase.Nil u = f || l
may_pass f l Phase.Active Phase.Active u = true
may_pass f l Phase.Active Phase.Ready u = true
may_pass f l Phase.Active Phase.Committing u = u
may_pass f l Phase.Active Phase.Rolling u = f
may_pass f l Phase.Ready Phase.Nil u = f || l
may_pass f l Phase.Ready Phase.Active u = false
may_pass f l Phase.Ready Phase.Ready u = true
may_pass f l Phase.Ready Phase.Committing u = u
may_pass f l Phase.Ready Phase.Rolling u = f
may_pass f l Phase.Committing Phase.Nil u = u
may_pass f l Phase.Committing Phase.Active u = false
may_pass f l Phase.Committing Phase.Ready u = false
may_pass f l Phase.Committing Phase.Committing u = true
may_pass f l Phase.Committing Phase.Rolling u = false
may_pass f l Phase.Rolling Phase.Nil u = true
may_pass f l Phase.Rolling Phase.Active u = false
may_pass f l Phase.Rolling Phase.Ready u = false
may_pass f l Phase.Rolling Phase.Committing u = false
may_pass f l Phase.Rolling Phase.Rolling u = true

pub pass_same : (f l : Bool) (p : Phase) (u : Bool) → may_pass f l p p u ≡ true
pass_same f l Phase.Nil u = refl
pass_same f l Phase.Active u = refl
pass_same f l Phase.Ready u = refl
pass_same f l Phase.Committing u = refl
pass_same f l Phase.Rolling u = refl

pass_further : (f l : Bool) (m q : Phase) (u v : Bool) → may_pass f l m q v ≡ true → may_pass f l m q (u || v) ≡ true
pass_further f l m q true v h = pass_most f l m q v h
  where
    pass_most : (f l : Bool) (m q : Phase) (v : Bool) → may_pass f l m q v ≡ true → may_pass f l m q true ≡ true
    pass_most f l m q true h = h
    pass_most f l m q false h = grind (arith, h)
pass_further f l m q false v h = h

-- one step after another, of which one forces a record at most
pub pass_then : (f l : Bool) (p m q : Phase) (u v : Bool) → (u && v) ≡ false → may_pass f l p m u ≡ true → may_pass f l m q v ≡ true → may_pass f l p q (u || v) ≡ true
pass_then f l Phase.Nil Phase.Nil q u v o h i = pass_further f l Phase.Nil q u v i
pass_then f l Phase.Nil m q u v o h i = absurd (grind (arith, h))
pass_then f l Phase.Active Phase.Nil Phase.Nil u v o h i = h
pass_then f l Phase.Active Phase.Nil q u v o h i = absurd (grind (arith, i))
pass_then f l Phase.Active Phase.Active q u v o h i = pass_further f l Phase.Active q u v i
pass_then f l Phase.Active Phase.Ready q u v o h i = pass_further f l Phase.Active q u v (grind (arith, i))
pass_then f l Phase.Active Phase.Committing q u v o h i = grind (arith, o, h, i)
pass_then f l Phase.Active Phase.Rolling q u v o h i = grind (arith, h, i)
pass_then f l Phase.Ready Phase.Nil Phase.Nil u v o h i = h
pass_then f l Phase.Ready Phase.Nil q u v o h i = absurd (grind (arith, i))
pass_then f l Phase.Ready Phase.Active q u v o h i = absurd (cc (h))
pass_then f l Phase.Ready Phase.Ready q u v o h i = pass_further f l Phase.Ready q u v i
pass_then f l Phase.Ready Phase.Committing q u v o h i = grind (arith, o, h, i)
pass_then f l Phase.Ready Phase.Rolling q u v o h i = grind (arith, h, i)
pass_then f l Phase.Committing Phase.Nil q u v o h i = grind (arith, h, i)
pass_then f l Phase.Committing Phase.Committing q u v o h i = pass_further f l Phase.Committing q u v i
pass_then f l Phase.Committing m q u v o h i = absurd (grind (arith, h))
pass_then f l Phase.Rolling Phase.Nil q u v o h i = grind (arith, i)
pass_then f l Phase.Rolling Phase.Rolling q u v o h i = pass_further f l Phase.Rolling q u v i
pass_then f l Phase.Rolling m q u v o h i = absurd (grind (arith, h))

-- a wider rollback, or leaving
pub pass_more : (f l g k : Bool) (p q : Phase) (u w : Bool) → (f ≡ true → g ≡ true) → (l ≡ true → k ≡ true) → u ≡ w → may_pass f l p q u ≡ true → may_pass g k p q w ≡ true
pass_more f l g k p q u w a b e h = ap (may_pass g k p q) (sym e) ∙ go f l a b h
  where
    go : (f l : Bool) → (f ≡ true → g ≡ true) → (l ≡ true → k ≡ true) → may_pass f l p q u ≡ true → may_pass g k p q u ≡ true
    go true true a b h = let x = a refl in let y = b refl in grind (arith, x, y, h)
    go true false a b h = let x = a refl in grind (arith, x, h)
    go false true a b h = let y = b refl in grind (arith, y, h)
    go false false a b h = grind (arith, h)

-- active or ready is left for nil
pub pass_over : (f l : Bool) (p : Phase) (u : Bool) → (is_active p || is_ready p) ≡ true → may_pass f l p Phase.Nil u ≡ true → (f || l) ≡ true
pass_over f l Phase.Active u h i = i
pass_over f l Phase.Ready u h i = i
pass_over f l _ u h i = absurd (cc (h))

pub pass_active : (f l : Bool) (p q : Phase) (u : Bool) → is_active p ≡ true → is_active q ≡ true → may_pass f l p q u ≡ true
pass_active f l p q u h i = grind (arith, h, i)

-- ---- the rules

record IsEnding (e : TxEvent) (s t : Transaction) (a : Turn) : Type 0 where
  pub passes : may_pass (falls e s) (is_leaving e) t.phase a.next.phase (is_some_rec a.rec) ≡ true

ending_same : (e : TxEvent) (s t : Transaction) (a : Turn) → a.next.phase ≡ t.phase → IsEnding e s t a
ending_same e s t a same = record { passes = ap (λ (p : Phase). may_pass (falls e s) (is_leaving e) t.phase p (is_some_rec a.rec)) same ∙ pass_same (falls e s) (is_leaving e) t.phase (is_some_rec a.rec) }

to_ready : (f l : Bool) (p : Phase) (u : Bool) → is_active p ≡ true → may_pass f l p Phase.Ready u ≡ true
to_ready f l p u h = grind (arith, h)

to_committing : (f l : Bool) (p : Phase) → (is_active p || is_ready p) ≡ true → may_pass f l p Phase.Committing true ≡ true
to_committing f l p h = grind (arith, h)

to_rolling : (f l : Bool) (p : Phase) (u : Bool) → f ≡ true → (is_active p || is_ready p) ≡ true → may_pass f l p Phase.Rolling u ≡ true
to_rolling f l p u i h = grind (arith, i, h)

ended_commit : (f l : Bool) (p : Phase) → is_committing p ≡ true → may_pass f l p Phase.Nil true ≡ true
ended_commit f l p h = grind (arith, h)

ended_rollback : (f l : Bool) (p : Phase) (u : Bool) → is_rolling p ≡ true → may_pass f l p Phase.Nil u ≡ true
ended_rollback f l p u h = grind (arith, h)

ended_leaving : (f l : Bool) (p : Phase) (u : Bool) → l ≡ true → is_active p ≡ true → may_pass f l p Phase.Nil u ≡ true
ended_leaving f l p u i h = grind (arith, i, h)

ending_order : (e : TxEvent) (s t : Transaction) → (is_active t.phase || is_ready t.phase) ≡ true → IsEnding e s t (order t)
unfolding order
ending_order e s t h = record { passes = to_committing (falls e s) (is_leaving e) t.phase h }

ending_rolls : (e : TxEvent) (s t : Transaction) (asked : Bool) → falls e s ≡ true → (is_active t.phase || is_ready t.phase) ≡ true → IsEnding e s t (begin_rolling asked t)
unfolding begin_rolling
ending_rolls e s t asked fall h = record { passes = to_rolling (falls e s) (is_leaving e) t.phase _ fall h }

ending_commit : (e : TxEvent) (s t : Transaction) → is_committing t.phase ≡ true → IsEnding e s t (complete_commit t)
unfolding complete_commit
ending_commit e s t c = go (not t.owes && all_done t.rows) refl
  where
    go : (b : Bool) → (not t.owes && all_done t.rows) ≡ b → IsEnding e s t (complete_commit t)
    go false i = rw i (ending_same e s t (turn [] t) refl)
    go true i = rw i (record { passes = ended_commit (falls e s) (is_leaving e) t.phase c })

ending_rollback : (e : TxEvent) (s t : Transaction) → is_rolling t.phase ≡ true → IsEnding e s t (complete_rollback t)
unfolding complete_rollback
ending_rollback e s t c = go (not t.owes && all_rolled_back t.rows && (t.superior_rolled || not t.up)) refl
  where
    go : (b : Bool) → (not t.owes && all_rolled_back t.rows && (t.superior_rolled || not t.up)) ≡ b → IsEnding e s t (complete_rollback t)
    go false i = rw i (ending_same e s t (turn [] t) refl)
    go true i = rw i (record { passes = ended_rollback (falls e s) (is_leaving e) t.phase false c })

ending_leave : (e : TxEvent) (s : Transaction) → e ≡ TxEvent.User Request.Unchanged → is_active s.phase ≡ true → IsEnding e s s (leave s)
unfolding leave
ending_leave e s is act = record { passes = ended_leaving (falls e s) (is_leaving e) s.phase false (ap is_leaving is) act }

ending_ask : (e : TxEvent) (s : Transaction) → IsEnding e s s (ask_commit s)
unfolding ask_commit
ending_ask e s = ending_same e s s (ask_commit s) refl

ending_count : (e : TxEvent) (s : Transaction) (q : ℕ) → IsEnding e s s (count_branch q s)
unfolding count_branch
ending_count e s q = ending_same e s s (count_branch q s) (row_phase s q (λ r. record r { branch = record r.branch { counted = true } }))

ending_end : (e : TxEvent) (s t : Transaction) (q : ℕ) (x : Report) → IsEnding e s t (end_branch q x t)
unfolding end_branch
ending_end e s t q x = ending_same e s t (end_branch q x t) (row_phase t q (λ r. record r { branch = record r.branch { ended = true; report = x } }))

ending_left : (e : TxEvent) (s t : Transaction) (q : ℕ) → IsEnding e s t (branch_left q t)
unfolding branch_left
ending_left e s t q = ending_same e s t (branch_left q t) (row_phase t q (λ r. record r { branch = record r.branch { left = true } }))

-- ---- the steps

some_apart : (a b : Option LogRec) → (a ≡ None) ⊎ (b ≡ None) → (is_some_rec a && is_some_rec b) ≡ false
some_apart (Some s) (Some r) (inl i) = absurd (cc (i))
some_apart (Some s) (Some r) (inr i) = absurd (cc (i))
some_apart _ _ h = refl

ending_then : (e : TxEvent) (s t : Transaction) (a : Turn) (f : Transaction → Turn) → IsEnding e s t a → IsEnding e s a.next (f a.next) → (a.rec ≡ None) ⊎ ((f a.next).rec ≡ None)
    → may_pass (falls e s) (is_leaving e) t.phase (f a.next).next.phase (is_some_rec (elim (f a.next).rec as (λ _. Option LogRec) [ None ↦ a.rec | Some r ↦ Some r ])) ≡ true
ending_then e s t a f one two none =
    ap (may_pass (falls e s) (is_leaving e) t.phase (f a.next).next.phase) (sym (some_then a.rec (f a.next).rec))
    ∙ pass_then (falls e s) (is_leaving e) t.phase a.next.phase (f a.next).next.phase (is_some_rec a.rec) (is_some_rec (f a.next).rec) (some_apart a.rec (f a.next).rec none) one.passes two.passes

ending_turns : (e : TxEvent) (s : Transaction) → Turns e s (IsEnding e s)
ending_turns e s = record {
  still = λ t. ending_same e s t (turn [] t) refl;
  first = λ t u outs a one two. record { passes = pass_then (falls e s) (is_leaving e) t.phase u.phase a.next.phase false (is_some_rec a.rec) refl one.passes two.passes };
  chain = λ t a f one two none. record { passes = ending_then e s t a f one two none };
  tells = λ t i n. ending_same e s t _ refl;
  notes_prepare = λ pr cl. ending_same e s s _ refl;
  notes_done = λ is. ending_same e s s _ refl;
  notes_end = λ q is. ending_same e s s _ refl;
  notes_rollback = λ ro cl. ending_same e s s _ refl;
  defers_end = λ q is. ending_same e s s _ (row_phase s q (λ r. record r { ends = true }));
  defers_grant = λ q is. ending_same e s s _ refl;
  prepares = λ q. ending_same e s s _ (row_phase s q (λ r. record r { branch = record r.branch { prepared = true } }));
  asks = λ is act asked told. ending_ask e s;
  asks_again = ending_same e s s (turn (retried s) s) refl;
  decides = λ o is ready. ending_same e s s (decide o s) refl;
  aborts = λ q is. ending_same e s s _ (lost_phase s q);
  loses_arc = λ q gone. ending_same e s s _ (lost_phase s q);
  closes_left = λ q is. ending_same e s s _ (row_phase s q row_dead);
  gives_up = λ q r is c found. ending_same e s s (shut_given_up q r s) (row_phase s q (λ w. record w { branch = record w.branch { given_up = true }; live = false; ends = false }));
  counts = λ q is act row. ending_count e s q;
  ends_done = λ q r is c row. ending_end e s s q r;
  ends_replied = λ b w r is found o. ending_end e s s w.branch.peer.node r;
  ends_rolled = λ q r is c row. ending_end e s s q r;
  leaves_below = λ q w t is left at act. ending_left e s t q;
  leaves_rolling = λ q w t is left at c. ending_end e s t q Report.None;
  votes = λ t act asked all under. record { passes = to_ready (falls e s) (is_leaving e) t.phase (is_some_rec (vote t).rec) act };
  orders_root = λ t act asked all root. ending_order e s t (rw act refl);
  orders_ready = λ ready is. ending_order e s s (rw ready (grind arith));
  rolls = λ t asked f ok. ending_rolls e s t asked f ok;
  completes_commit = λ t c. ending_commit e s t c;
  completes_rollback = λ t c. ending_rollback e s t c;
  leaves = λ is act under asked all. ending_leave e s is act;
}

-- every event of a transaction
pub ending_turn : (e : TxEvent) (s : Transaction) → IsPut e s → may_pass (falls e s) (is_leaving e) s.phase (transacted e s).next.phase (is_some_rec (transacted e s).rec) ≡ true
ending_turn e s put = (every_turn e s (IsEnding e s) (ending_turns e s) put).passes
