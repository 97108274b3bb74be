-- Past the active phase each branch on a live association is counted, has left or has ended.
use Rattle.std.proofs.Common.{◌≡◌, ℕ, Bool, true, false, refl, ap, sym, subst, ◌∙◌, arith, Option, Some, None, List, [], ◌∷◌, ◌&&◌, ◌||◌, ◌==◌, not}
use Rattle.tp_model.specs.declared.transaction.TxEvent.{TxEvent}
use Rattle.tp_model.specs.declared.arc.Phase.{Phase}
use Rattle.tp_model.specs.Parts.{Branch}
use Rattle.tp_model.specs.Dialogues.{is_active, is_ready, is_committing}
use Rattle.tp_model.specs.Transactions.{Row, Transaction, Turn, is_under_at, find_row, with_row, with_arc_lost, all_settled, all_done, all_rolled_back, complete_commit, complete_rollback, begin_rolling, order, leave, ask_commit, count_branch, end_branch, branch_left, transacted}
use Rattle.tp_steps.specs.Turns.{vote, row_dead, Turns}
use Rattle.tp_steps.specs.Moves.{IsPut}
use Rattle.tp_steps.proofs.words.Fair.{row_phase, row_with}
use Rattle.tp_steps.proofs.every.EveryTurn.{every_turn}
use Rattle.tp_steps.proofs.lemmas.Options.{some_same}

abbrev pub is_settled : Branch → Bool
is_settled b = b.counted || b.left || b.ended

abbrev pub is_bound_phase : Phase → Bool
is_bound_phase p = is_ready p || is_committing p

abbrev pub Settled : Transaction → Type 0
Settled t = is_bound_phase t.phase ≡ true → (p : ℕ) (r : Row) → find_row t.rows p ≡ Some r → r.live ≡ true → is_settled r.branch ≡ true

abbrev KeepsSettled : Transaction → Turn → Type 0
KeepsSettled t a = Settled t → Settled a.next

-- one row changes
settled_row : (t u : Transaction) (q : ℕ) (f : Row → Row) → u.rows ≡ (with_row t q f).rows → u.phase ≡ t.phase → ((r : Row) → (f r).branch.peer.node ≡ r.branch.peer.node)
    → ((r : Row) → (r.live ≡ true → is_settled r.branch ≡ true) → (f r).live ≡ true → is_settled (f r).branch ≡ true) → Settled t → Settled u
settled_row t u q f is phase peer keeps old bound p n h live = go (q == p) refl (sym (ap (λ (rs : List Row). find_row rs p) is) ∙ h)
  where
    was : is_bound_phase t.phase ≡ true
    was = ap is_bound_phase (sym phase) ∙ bound

    go : (b : Bool) → (q == p) ≡ b → find_row (with_row t q f).rows p ≡ Some n → is_settled n.branch ≡ true
    go false i m = old was p n (sym (row_with t q f p peer ∙ rw i refl) ∙ m) live
    go true i m = on (find_row t.rows p) refl
      where
        on : (o : Option Row) → find_row t.rows p ≡ o → is_settled n.branch ≡ true
        on None j = let none : find_row (with_row t q f).rows p ≡ None = row_with t q f p peer ∙ rw (i, j) refl in absurd (cc (none, m))
        on (Some r) j =
            let now : find_row (with_row t q f).rows p ≡ Some (f r) = row_with t q f p peer ∙ rw (i, j) refl in
            let same : f r ≡ n = some_same (f r) n (sym now ∙ m) in
            subst (λ (v : Row). is_settled v.branch ≡ true) same (keeps r (old was p r j) (ap (λ (v : Row). v.live) same ∙ live))

settled_lost : (t : Transaction) (q : ℕ) → Settled t → Settled (with_arc_lost t q)
settled_lost t q old = go (is_under_at t.key q) refl
  where
    go : (b : Bool) → is_under_at t.key q ≡ b → Settled (with_arc_lost t q)
    go true i = rw (i, with_arc_lost) old
    go false i =
        let same : with_arc_lost t q ≡ with_row t q row_dead = rw (i, with_arc_lost) refl in
        subst Settled (sym same) (settled_row t (with_row t q row_dead) q row_dead refl (row_phase t q row_dead) (λ r. refl) (λ r h l. absurd (cc (l))) old)

-- a phase that binds nothing
loose : (u : Transaction) → is_bound_phase u.phase ≡ false → Settled u
loose u h bound = absurd (cc (h, bound))

pub all_row : (rows : List Row) (p : ℕ) (r : Row) → all_settled rows ≡ true → find_row rows p ≡ Some r → (r.branch.counted || r.branch.left) ≡ true
all_row [] p r h i = absurd cc
all_row (x ∷ rows) p r h i = go (x.branch.peer.node == p) refl (all_row rows p r)
  where
    go : (b : Bool) → (x.branch.peer.node == p) ≡ b → (all_settled rows ≡ true → find_row rows p ≡ Some r → (r.branch.counted || r.branch.left) ≡ true) → (r.branch.counted || r.branch.left) ≡ true
    go true j rest =
        let one : Some x ≡ Some r = rw j at i in
        let same : x ≡ r = some_same x r one in
        let both : (x.branch.counted || x.branch.left) ≡ true = grind (arith, h) in
        subst (λ (v : Row). (v.branch.counted || v.branch.left) ≡ true) same both
    go false j rest =
        let one : find_row rows p ≡ Some r = rw j at i in
        let all : all_settled rows ≡ true = grind (arith, h) in
        rest all one

settled_all : (t : Transaction) → all_settled t.rows ≡ true → Settled t
settled_all t all bound p r h live = let x = all_row t.rows p r all h in grind (arith, x)

settled_commit : (t : Transaction) → KeepsSettled t (complete_commit t)
unfolding complete_commit
settled_commit t old bound p r h live = pick (not t.owes && all_done t.rows) refl
  where
    pick : (b : Bool) → (not t.owes && all_done t.rows) ≡ b → is_settled r.branch ≡ true
    pick true i = absurd (grind (arith, bound, i))
    pick false i =
        let same : (complete_commit t).next ≡ t = grind (arith, i) in
        old (ap (λ (u : Transaction). is_bound_phase u.phase) (sym same) ∙ bound) p r (ap (λ (u : Transaction). find_row u.rows p) (sym same) ∙ h) live

settled_rollback : (t : Transaction) → KeepsSettled t (complete_rollback t)
unfolding complete_rollback
settled_rollback t old bound p r h live = pick (not t.owes && all_rolled_back t.rows && (t.superior_rolled || not t.up)) refl
  where
    pick : (b : Bool) → (not t.owes && all_rolled_back t.rows && (t.superior_rolled || not t.up)) ≡ b → is_settled r.branch ≡ true
    pick true i = absurd (grind (arith, bound, i))
    pick false i =
        let same : (complete_rollback t).next ≡ t = grind (arith, i) in
        old (ap (λ (u : Transaction). is_bound_phase u.phase) (sym same) ∙ bound) p r (ap (λ (u : Transaction). find_row u.rows p) (sym same) ∙ h) live

settled_rolling : (asked : Bool) (t : Transaction) → KeepsSettled t (begin_rolling asked t)
unfolding begin_rolling
settled_rolling asked t old = loose (begin_rolling asked t).next refl

settled_order : (t : Transaction) → Settled (record t { phase = Phase.Committing }) → Settled (order t).next
unfolding order
settled_order t h = h

settled_leave : (t : Transaction) → KeepsSettled t (leave t)
unfolding leave
settled_leave t old = loose (leave t).next refl

settled_ask : (t : Transaction) → is_active t.phase ≡ true → KeepsSettled t (ask_commit t)
unfolding ask_commit
settled_ask t act old = loose (ask_commit t).next (grind (arith, act))

settled_count : (q : ℕ) (t : Transaction) → KeepsSettled t (count_branch q t)
unfolding count_branch
settled_count q t old = settled_row t (count_branch q t).next q (λ r. record r { branch = record r.branch { counted = true } }) refl (row_phase t q (λ r. record r { branch = record r.branch { counted = true } })) (λ r. refl) (λ r h l. refl) old

settled_end : (q : ℕ) (x : _) (t : Transaction) → KeepsSettled t (end_branch q x t)
unfolding end_branch
settled_end q x t old = settled_row t (end_branch q x t).next q (λ r. record r { branch = record r.branch { ended = true; report = x } }) refl (row_phase t q (λ r. record r { branch = record r.branch { ended = true; report = x } })) (λ r. refl) (λ r h l. grind arith) old

settled_left : (q : ℕ) (t : Transaction) → KeepsSettled t (branch_left q t)
unfolding branch_left
settled_left q t old = settled_row t (branch_left q t).next q (λ r. record r { branch = record r.branch { left = true } }) refl (row_phase t q (λ r. record r { branch = record r.branch { left = true } })) (λ r. refl) (λ r h l. grind arith) old

settled_turns : (e : TxEvent) (s : Transaction) → Turns e s KeepsSettled
settled_turns e s = record {
  still = λ t old. old;
  first = λ t u outs a one two old. two (one old);
  chain = λ t a f one two none old. two (one old);
  tells = λ t i n old. old;
  notes_prepare = λ pr h old. old;
  notes_done = λ is old. old;
  notes_end = λ q is old. old;
  notes_rollback = λ ro h old. old;
  defers_end = λ q is old. settled_row s (with_row s q (λ r. record r { ends = true })) q (λ r. record r { ends = true }) refl (row_phase s q (λ r. record r { ends = true })) (λ r. refl) (λ r h l. h l) old;
  defers_grant = λ q is old. old;
  prepares = λ q old. settled_row s (with_row s q (λ r. record r { branch = record r.branch { prepared = true } })) q (λ r. record r { branch = record r.branch { prepared = true } }) refl (row_phase s q (λ r. record r { branch = record r.branch { prepared = true } })) (λ r. refl) (λ r h l. h l) old;
  asks = λ is act asked told. settled_ask s act;
  asks_again = λ old. old;
  decides = λ o is ready old. old;
  aborts = λ q is old. settled_lost s q old;
  loses_arc = λ q gone old. settled_lost s q old;
  closes_left = λ q is old. settled_row s (with_row s q row_dead) q row_dead refl (row_phase s q row_dead) (λ r. refl) (λ r h l. absurd (cc (l))) old;
  gives_up = λ q r is c found old. settled_row s (with_row s q (λ w. record w { branch = record w.branch { given_up = true }; live = false; ends = false })) q (λ w. record w { branch = record w.branch { given_up = true }; live = false; ends = false }) refl (row_phase s q (λ w. record w { branch = record w.branch { given_up = true }; live = false; ends = false })) (λ w. refl) (λ w h l. absurd (cc (l))) old;
  counts = λ q is act row. settled_count q s;
  ends_done = λ q r is c row. settled_end q r s;
  ends_replied = λ b w r is found o. settled_end w.branch.peer.node r s;
  ends_rolled = λ q r is c row. settled_end q r s;
  leaves_below = λ q w t is left at act. settled_left q t;
  leaves_rolling = λ q w t is left at c. settled_end q _ t;
  votes = λ t act asked all under old. settled_all (vote t).next all;
  orders_root = λ t act asked all root old. settled_order t (settled_all (record t { phase = Phase.Committing }) all);
  orders_ready = λ ready is old. settled_order s (λ b p r h l. old (grind (arith, ready)) p r h l);
  rolls = λ t asked f ok. settled_rolling asked t;
  completes_commit = λ t c. settled_commit t;
  completes_rollback = λ t c. settled_rollback t;
  leaves = λ is act under asked all. settled_leave s;
}

pub settled_turn : (e : TxEvent) (s : Transaction) → IsPut e s → Settled s → Settled (transacted e s).next
settled_turn e s put = every_turn e s KeepsSettled (settled_turns e s) put
