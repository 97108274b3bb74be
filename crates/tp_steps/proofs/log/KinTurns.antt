-- No turn changes which branches a transaction has: an instance of the steps of a turn.
use Rattle.std.proofs.Common.{◌≡◌, ℕ, Bool, true, false, refl, ap, sym, ◌∙◌, arith, Option, Some, None, List, [], ◌∷◌, ◌++◌, ◌==◌}
use Rattle.tp_names.specs.declared.children.Child.{Child}
use Rattle.tp_names.specs.declared.outcome.Report.{Report}
use Rattle.tp_model.specs.declared.transaction.TxEvent.{TxEvent}
use Rattle.tp_model.specs.Parts.{Arc, Branch}
use Rattle.tp_model.specs.Transactions.{Row, Transaction, Turn, find_row, put_row, with_row, with_arc_lost, child_of, all_prepared, complete_commit, complete_rollback, begin_rolling, order, ask_commit, leave, count_branch, end_branch, branch_left, fresh_rows, transacted}
use Rattle.tp_model.specs.Node.{seen_rows, branches_of}
use Rattle.tp_steps.specs.Turns.{Turns, row_dead}
use Rattle.tp_steps.specs.Moves.{IsPut}
use Rattle.tp_steps.proofs.every.EveryTurn.{every_turn}
use Rattle.tp_steps.proofs.words.Fair.{row_is}

-- the branches, those that left too
abbrev pub kin : List Branch → List Child
kin [] = []
kin (b ∷ bs) = child_of b ∷ kin bs

abbrev pub kids : List Row → List Child
kids [] = []
kids (r ∷ rs) = child_of r.branch ∷ kids rs

pub kids_seen : (arcs : List Arc) (bs : List Branch) → kids (seen_rows arcs bs) ≡ kin bs
kids_seen arcs [] = refl
kids_seen arcs (b ∷ bs) = ap (λ (cs : List Child). child_of b ∷ cs) (kids_seen arcs bs)

pub kids_left : (rows : List Row) → kin (branches_of rows) ≡ kids rows
kids_left [] = refl
kids_left (r ∷ rs) = ap (λ (cs : List Child). child_of r.branch ∷ cs) (kids_left rs)

pub kids_more : (rows : List Row) (c : Child) → kids (rows ++ fresh_rows (c ∷ [])) ≡ kids rows ++ c ∷ []
kids_more [] c = refl
kids_more (r ∷ rs) c = ap (λ (cs : List Child). child_of r.branch ∷ cs) (kids_more rs c)

kids_put : (rows : List Row) (q : ℕ) (r n : Row) → find_row rows q ≡ Some r → n.branch.peer.node ≡ q → child_of n.branch ≡ child_of r.branch → kids (put_row rows n) ≡ kids rows
kids_put [] q r n h i c = refl
kids_put (w ∷ rows) q r n h i c = go (w.branch.peer.node == q) refl (kids_put rows q r n)
  where
    go : (b : Bool) → (w.branch.peer.node == q) ≡ b → (find_row rows q ≡ Some r → n.branch.peer.node ≡ q → child_of n.branch ≡ child_of r.branch → kids (put_row rows n) ≡ kids rows) → kids (put_row (w ∷ rows) n) ≡ kids (w ∷ rows)
    go true j rest =
        let one : Some w ≡ Some r = rw (j, find_row) at h in
        let same : w ≡ r = cc (one) in
        let at : (w.branch.peer.node == n.branch.peer.node) ≡ true = rw i j in
        let cw : child_of n.branch ≡ child_of w.branch = c ∙ ap (λ (x : Row). child_of x.branch) (sym same) in
        rw (at, put_row) (ap (λ (x : Child). x ∷ kids rows) cw)
    go false j rest =
        let k : find_row rows q ≡ Some r = rw (j, find_row) at h in
        let at : (w.branch.peer.node == n.branch.peer.node) ≡ false = rw i j in
        rw (at, put_row) (ap (λ (cs : List Child). child_of w.branch ∷ cs) (rest k i c))

kids_row : (t : Transaction) (q : ℕ) (f : Row → Row) → ((r : Row) → child_of (f r).branch ≡ child_of r.branch) → kids (with_row t q f).rows ≡ kids t.rows
kids_row t q f c = go (find_row t.rows q) refl
  where
    go : (o : Option Row) → find_row t.rows q ≡ o → kids (with_row t q f).rows ≡ kids t.rows
    go None i = rw (i, with_row) refl
    go (Some r) i = rw (i, with_row) (kids_put t.rows q r (f r) i (ap (λ (x : _). x.addr.node) (c r) ∙ row_is t.rows q r i) (c r))

kids_lost : (t : Transaction) (q : ℕ) → kids (with_arc_lost t q).rows ≡ kids t.rows
kids_lost t q = grind (arith, kids_row t q row_dead (λ r. refl))

kids_prepared : (rows : List Row) → kids (all_prepared rows) ≡ kids rows
kids_prepared [] = refl
kids_prepared (r ∷ rs) = ap (λ (cs : List Child). child_of r.branch ∷ cs) (kids_prepared rs)

abbrev pub IsKin : Transaction → Turn → Type 0
IsKin t a = kids a.next.rows ≡ kids t.rows

kin_order : (t : Transaction) → IsKin t (order t)
unfolding order
kin_order t = refl

kin_rolls : (asked : Bool) (t : Transaction) → IsKin t (begin_rolling asked t)
unfolding begin_rolling
kin_rolls asked t = refl

kin_completes : (t : Transaction) → IsKin t (complete_commit t)
unfolding complete_commit
kin_completes t = ap kids rows
  where
    rows : (complete_commit t).next.rows ≡ t.rows
    rows = grind arith

kin_unrolls : (t : Transaction) → IsKin t (complete_rollback t)
unfolding complete_rollback
kin_unrolls t = ap kids rows
  where
    rows : (complete_rollback t).next.rows ≡ t.rows
    rows = grind arith

pub kin_turns : (e : TxEvent) (s : Transaction) → Turns e s IsKin
unfolding ask_commit leave count_branch end_branch branch_left
kin_turns e s = record {
  still = λ t. refl;
  first = λ t u outs a one two. two ∙ one;
  chain = λ t a f one two none. two ∙ one;
  tells = λ t i n. refl;
  notes_prepare = λ pr h. refl;
  notes_done = λ is. refl;
  notes_end = λ q is. refl;
  notes_rollback = λ ro h. refl;
  defers_end = λ q is. kids_row s q (λ r. record r { ends = true }) (λ r. refl);
  defers_grant = λ q is. refl;
  prepares = λ q. kids_row s q (λ r. record r { branch = record r.branch { prepared = true } }) (λ r. refl);
  asks = λ is act asked told. kids_prepared s.rows;
  asks_again = refl;
  decides = λ o is ready. refl;
  aborts = λ q is. kids_lost s q;
  loses_arc = λ q gone. kids_lost s q;
  closes_left = λ q is. kids_row s q row_dead (λ r. refl);
  gives_up = λ q r is c found. kids_row s q (λ w. record w { branch = record w.branch { given_up = true }; live = false; ends = false }) (λ r. refl);
  counts = λ q is act row. kids_row s q (λ r. record r { branch = record r.branch { counted = true } }) (λ r. refl);
  ends_done = λ q r is c row. kids_row s q (λ w. record w { branch = record w.branch { ended = true; report = r } }) (λ r. refl);
  ends_replied = λ b w r is found o. kids_row s w.branch.peer.node (λ v. record v { branch = record v.branch { ended = true; report = r } }) (λ r. refl);
  ends_rolled = λ q r is c row. kids_row s q (λ w. record w { branch = record w.branch { ended = true; report = r } }) (λ r. refl);
  leaves_below = λ q w t is left at act. kids_row t q (λ v. record v { branch = record v.branch { left = true } }) (λ r. refl);
  leaves_rolling = λ q w t is left at c. kids_row t q (λ v. record v { branch = record v.branch { ended = true; report = Report.None } }) (λ r. refl);
  votes = λ t act asked all under. refl;
  orders_root = λ t act asked all root. kin_order t;
  orders_ready = λ ready is. kin_order s;
  rolls = λ t asked f ok. kin_rolls asked t;
  completes_commit = λ t c. kin_completes t;
  completes_rollback = λ t c. kin_unrolls t;
  leaves = λ is act under asked all. refl;
}

pub kin_turn : (e : TxEvent) (s : Transaction) → IsPut e s → IsKin s (transacted e s)
kin_turn e s put = every_turn e s IsKin (kin_turns e s) put
