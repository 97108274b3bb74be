-- The record that a turn forces may stand after what the log has of its transaction: an instance of the steps of a turn.
use Rattle.std.proofs.Common.{if◌then◌else◌, ◌≡◌, ◌⊎◌, inl, inr, ℕ, Bool, true, false, refl, ap, sym, subst, ◌∙◌, arith, Option, Some, None, List, [], ◌∷◌, ◌&&◌, ◌||◌, not}
use Rattle.std.proofs.lemmas.Bool.Decides.{nat_tests}
use Rattle.tp_names.specs.declared.identifiers.Addr.{Addr}
use Rattle.tp_names.specs.Same.{is_addr}
use Rattle.tp_names.specs.declared.children.Child.{Child}
use Rattle.tp_names.specs.declared.outcome.Outcome.{Outcome}
use Rattle.tp_names.specs.declared.outcome.Report.{Report}
use Rattle.tp_names.specs.Reports.{join, is_report_none}
use Rattle.tp_logrec.specs.declared.record.LogRec.{LogRec}
use Rattle.tp_logrec.specs.Order.{is_child, are_among}
use Rattle.tp_logrec.proofs.Sames.{among_less}
use Rattle.tp_model.specs.declared.arc.Phase.{Phase}
use Rattle.tp_model.specs.declared.transaction.TxEvent.{TxEvent}
use Rattle.tp_model.specs.Parts.{Key, Root, Under, Current}
use Rattle.tp_model.specs.Dialogues.{is_active, is_ready, is_committing}
use Rattle.tp_model.specs.Transactions.{Row, Transaction, Turn, node_key, superior_of, is_under, all_done, child_of, children_of, log_ready, log_commit, log_end, log_damage, rollback_rec, own_damage, reports_of, owed_of, complete_commit, begin_rolling, order, ask_commit, leave, count_branch, end_branch, branch_left, transacted}
use Rattle.tp_model.specs.Events.{recovered, fresh_branches}
use Rattle.tp_steps.specs.Turns.{Turns, vote, is_order_for}
use Rattle.tp_steps.specs.Moves.{IsPut}
use Rattle.tp_steps.specs.Passages.{IsPassed}
use Rattle.tp_steps.specs.Standing.{standing, in_log, current_after, IsUndecided, IsTold}
use Rattle.tp_steps.proofs.every.EveryTurn.{every_turn, quiet_rollback}
use Rattle.tp_steps.proofs.log.Passed.{passed_turns}
use Rattle.tp_steps.proofs.log.OwnRecords.{IsOwnTurn, own_turns}
use Rattle.tp_steps.proofs.log.TurnLog.{active_none, told_turns}
use Rattle.tp_steps.proofs.words.Leaves.{branch_same, name_same}

-- ---- what a record asks of the transaction that stands in the log

abbrev pub is_own_commitment : Option Outcome → Bool
is_own_commitment None = false
is_own_commitment (Some Outcome.Commit) = true
is_own_commitment (Some Outcome.Rollback) = false

-- an order: a root's first record, or a ready branch's with the branches of its vote
abbrev pub IsOrderable : Key → List Child → Option Current → Type 0
IsOrderable k cs l = ((l ≡ None) × (is_under k ≡ false)) ⊎ ((is_under k ≡ true) × ((o : Option Outcome) × (l ≡ Some (recovered k Phase.Ready (fresh_branches cs) o))))

abbrev pub IsNext : ℕ → Key → Option Current → LogRec → Type 0
IsNext n k l (LogRec.Boot m) = ⊥
IsNext n k l (LogRec.Ready m j s cs) = (m ≡ n) × (j ≡ node_key k) × (l ≡ None)
IsNext n k l (LogRec.Heuristic m j o) = (m ≡ n) × (j ≡ node_key k) × ((ds : List Child) × (l ≡ Some (recovered k Phase.Ready (fresh_branches ds) None)))
IsNext n k l (LogRec.Commit m j a cs) = (m ≡ n) × (j ≡ node_key k) × (a ≡ superior_of k) × IsOrderable k cs l
IsNext n k l (LogRec.Damage m j a Outcome.Commit r cs) =
    (m ≡ n) × (j ≡ node_key k) × (a ≡ superior_of k) × ((ds : List Child) × (o : Option Outcome) × (l ≡ Some (recovered k Phase.Committing (fresh_branches ds) o)) × (are_among cs ds ≡ true))
IsNext n k l (LogRec.Damage m j a Outcome.Rollback r cs) =
    (m ≡ n) × (j ≡ node_key k) × (a ≡ superior_of k) × ((ds : List Child) × (l ≡ Some (recovered k Phase.Ready (fresh_branches ds) (Some Outcome.Commit))) × (r ≡ Report.Mix) × (cs ≡ []))
IsNext n k l (LogRec.End m j Outcome.Commit) =
    (m ≡ n) × (j ≡ node_key k) × ((ds : List Child) × (o : Option Outcome) × (l ≡ Some (recovered k Phase.Committing (fresh_branches ds) o)))
IsNext n k l (LogRec.End m j Outcome.Rollback) =
    (m ≡ n) × (j ≡ node_key k) × ((ds : List Child) × (o : Option Outcome) × (l ≡ Some (recovered k Phase.Ready (fresh_branches ds) o)) × (is_own_commitment o ≡ false))

abbrev pub AreNext : Transaction → Turn → Type 0
AreNext t a = (r : LogRec) → a.rec ≡ Some r → IsNext t.node t.key (in_log t) r

abbrev pub IsNextTurn : TxEvent → Transaction → Transaction → Turn → Type 0
IsNextTurn e s t a = IsOwnTurn t a × IsPassed e s t a × (IsUndecided t → IsTold t a × AreNext t a)

-- ---- the rules that force a record

next_vote : (t : Transaction) → is_active t.phase ≡ true → AreNext t (vote t)
next_vote t act r is = go t.key is
  where
    go : (k : Key) → log_ready (record t { key = k }) ≡ Some r → IsNext t.node k (standing k t.phase (children_of t.rows) t.decision) r
    go (Root a) is = absurd (cc (is))
    go (Under a b s) is =
        let same : LogRec.Ready t.node (node_key (Under a b s)) s (children_of t.rows) ≡ r = cc (is) in
        subst (IsNext t.node (Under a b s) (standing (Under a b s) t.phase (children_of t.rows) t.decision)) same (refl, refl, active_none (Under a b s) t.phase (children_of t.rows) t.decision act)

ready_log : (k : Key) (p : Phase) (cs : List Child) (o : Option Outcome) → is_ready p ≡ true → standing k p cs o ≡ Some (recovered k Phase.Ready (fresh_branches cs) o)
ready_log k Phase.Ready cs o h = refl
ready_log k _ cs o h = absurd (cc (h))

committing_log : (k : Key) (p : Phase) (cs : List Child) (o : Option Outcome) → is_committing p ≡ true → standing k p cs o ≡ Some (recovered k Phase.Committing (fresh_branches cs) o)
committing_log k Phase.Committing cs o h = refl
committing_log k _ cs o h = absurd (cc (h))

next_order : (t : Transaction) → IsOrderable t.key (children_of t.rows) (in_log t) → AreNext t (order t)
unfolding order
next_order t may r is =
    let same : log_commit t ≡ r = cc (is) in
    subst (IsNext t.node t.key (in_log t)) same (refl, refl, refl, may)

next_rolls : (t : Transaction) (asked : Bool) → (is_active t.phase || is_ready t.phase) ≡ true → AreNext t (begin_rolling asked t)
unfolding begin_rolling
next_rolls t asked ok r is = go t.phase t.decision ok is
  where
    one : (o : Option Outcome) (x : LogRec) → Some x ≡ Some r → IsNext t.node t.key (standing t.key Phase.Ready (children_of t.rows) o) x → IsNext t.node t.key (standing t.key Phase.Ready (children_of t.rows) o) r
    one o x i h = let same : x ≡ r = cc (i) in subst (IsNext t.node t.key (standing t.key Phase.Ready (children_of t.rows) o)) same h

    go : (p : Phase) (o : Option Outcome) → (is_active p || is_ready p) ≡ true → rollback_rec (record t { phase = p; decision = o }) ≡ Some r → IsNext t.node t.key (standing t.key p (children_of t.rows) o) r
    go Phase.Nil o h is = absurd (cc (h))
    go Phase.Active o h is = absurd (cc (is))
    go Phase.Ready None h is = one None (log_end t Outcome.Rollback) is (refl, refl, (children_of t.rows, None, refl, refl))
    go Phase.Ready (Some Outcome.Commit) h is = one (Some Outcome.Commit) (log_damage t Outcome.Rollback Report.Mix []) is (refl, refl, refl, (children_of t.rows, refl, refl, refl))
    go Phase.Ready (Some Outcome.Rollback) h is = one (Some Outcome.Rollback) (log_end t Outcome.Rollback) is (refl, refl, (children_of t.rows, Some Outcome.Rollback, refl, refl))
    go Phase.Committing o h is = absurd (cc (h))
    go Phase.Rolling o h is = absurd (cc (h))

pub addr_self : (a : Addr) → is_addr a a ≡ true
addr_self a = let n = name_same a.site in grind (arith, nat_tests, n)

pub child_self : (c : Child) → is_child c c ≡ true
child_self c = rw (addr_self c.addr) (branch_same c.branch)

pub among_more : (cs ds : List Child) (d : Child) → are_among cs ds ≡ true → are_among cs (d ∷ ds) ≡ true
among_more [] ds d h = refl
among_more (c ∷ cs) ds d h = go (is_child c d)
  where
    go : (b : Bool) → elim b as (λ _. Bool) [ true ↦ are_among cs ds | false ↦ are_among (c ∷ cs) ds ] ≡ true
    go true = among_less c cs ds h
    go false = h

owed_among : (rows : List Row) → are_among (owed_of rows) (children_of rows) ≡ true
owed_among [] = refl
owed_among (r ∷ rs) = go r.branch.left r.branch.ended (owed_among rs)
  where
    go : (l e : Bool) → are_among (owed_of rs) (children_of rs) ≡ true
        → are_among (if l || e then owed_of rs else child_of r.branch ∷ owed_of rs) (if l then children_of rs else child_of r.branch ∷ children_of rs) ≡ true
    go true e rest = rest
    go false true rest = among_more (owed_of rs) (children_of rs) (child_of r.branch) rest
    go false false rest = rw (child_self (child_of r.branch)) rest

next_completes : (t : Transaction) → is_committing t.phase ≡ true → AreNext t (complete_commit t)
unfolding complete_commit
next_completes t c r is = go (not t.owes && all_done t.rows) refl
  where
    log : in_log t ≡ Some (recovered t.key Phase.Committing (fresh_branches (children_of t.rows)) t.decision)
    log = committing_log t.key t.phase (children_of t.rows) t.decision c

    one : (b : Bool) (w : Report) → Some (if b then log_end t Outcome.Commit else log_damage t Outcome.Commit w (owed_of t.rows)) ≡ Some r → IsNext t.node t.key (in_log t) r
    one true w i = let same : log_end t Outcome.Commit ≡ r = cc (i) in subst (IsNext t.node t.key (in_log t)) same (refl, refl, (children_of t.rows, t.decision, log))
    one false w i =
        let same : log_damage t Outcome.Commit w (owed_of t.rows) ≡ r = cc (i) in
        subst (IsNext t.node t.key (in_log t)) same (refl, refl, refl, (children_of t.rows, t.decision, log, owed_among t.rows))

    go : (b : Bool) → (not t.owes && all_done t.rows) ≡ b → IsNext t.node t.key (in_log t) r
    go true h = one (is_report_none (join (own_damage t.decision) (reports_of t.rows))) (join (own_damage t.decision) (reports_of t.rows)) (rw (h, complete_commit) at is)
    go false h = let no : None ≡ Some r = rw (h, complete_commit) at is in absurd (cc (no))

-- ---- chains

next_moved : (t u : Transaction) (r : LogRec) → u.node ≡ t.node → u.key ≡ t.key → in_log t ≡ in_log u → IsNext u.node u.key (in_log u) r → IsNext t.node t.key (in_log t) r
next_moved t u r n k l h =
    subst (λ (m : ℕ). IsNext m t.key (in_log t) r) n (subst (λ (j : Key). IsNext u.node j (in_log t) r) k (subst (λ (o : Option Current). IsNext u.node u.key o r) (sym l) h))

next_then : (t u : Transaction) (x y : Option LogRec) → u.node ≡ t.node → u.key ≡ t.key → current_after x (in_log t) ≡ in_log u → (x ≡ None) ⊎ (y ≡ None)
    → ((r : LogRec) → x ≡ Some r → IsNext t.node t.key (in_log t) r) → ((r : LogRec) → y ≡ Some r → IsNext u.node u.key (in_log u) r)
    → (r : LogRec) → elim y as (λ _. Option LogRec) [ None ↦ x | Some q ↦ Some q ] ≡ Some r → IsNext t.node t.key (in_log t) r
next_then t u x None n k l q one two r is = one r is
next_then t u None (Some w) n k l q one two r is = next_moved t u r n k l (two r is)
next_then t u (Some v) (Some w) n k l (inl q) one two r is = absurd (cc (q))
next_then t u (Some v) (Some w) n k l (inr q) one two r is = absurd (cc (q))

next_turns : (e : TxEvent) (s : Transaction) → ((o : Outcome) → e ≡ TxEvent.Heur o → s.decision ≡ None) → (is_order_for e s ≡ true → is_under s.key ≡ true) → Turns e s (IsNextTurn e s)
unfolding ask_commit leave count_branch end_branch branch_left
next_turns e s fresh under = record {
  still = λ t. (own.still t, passed.still t, λ un. (told.still t un, λ r h. absurd (cc (h))));
  first = λ t u outs a one two.
      (own.first t u outs a one.0 two.0, passed.first t u outs a one.1 two.1, λ un. let x = one.2 un in let y = two.2 x.0.undecided in (told.first t u outs a (λ v. (one.2 v).0) (λ v. (two.2 v).0) un, λ r h. next_moved t u r one.0.0 one.1.key x.0.log (y.1 r h)));
  chain = λ t a f one two none.
      (own.chain t a f one.0 two.0 none, passed.chain t a f one.1 two.1 none, λ un. let x = one.2 un in let y = two.2 x.0.undecided in (told.chain t a f (λ v. (one.2 v).0) (λ v. (two.2 v).0) none un, next_then t a.next a.rec (f a.next).rec one.0.0 one.1.key x.0.log none x.1 y.1));
  tells = λ t i n. (own.tells t i n, passed.tells t i n, λ un. (told.tells t i n un, λ r h. absurd (cc (h))));
  notes_prepare = λ pr n. (own.notes_prepare pr n, passed.notes_prepare pr n, λ un. (told.notes_prepare pr n un, λ r h. absurd (cc (h))));
  notes_done = λ is. ((own.notes_done is), (passed.notes_done is), λ un. ((told.notes_done is) un, λ r h. absurd (cc (h))));
  notes_end = λ q is. (own.notes_end q is, passed.notes_end q is, λ un. (told.notes_end q is un, λ r h. absurd (cc (h))));
  notes_rollback = λ ro n. (own.notes_rollback ro n, passed.notes_rollback ro n, λ un. (told.notes_rollback ro n un, λ r h. absurd (cc (h))));
  defers_end = λ q is. (own.defers_end q is, passed.defers_end q is, λ un. (told.defers_end q is un, λ r h. absurd (cc (h))));
  defers_grant = λ q is. (own.defers_grant q is, passed.defers_grant q is, λ un. (told.defers_grant q is un, λ r h. absurd (cc (h))));
  prepares = λ q. (own.prepares q, passed.prepares q, λ un. (told.prepares q un, λ r h. absurd (cc (h))));
  asks = λ is act asked up. (own.asks is act asked up, passed.asks is act asked up, λ un. (told.asks is act asked up un, λ r h. absurd (cc (h))));
  asks_again = (own.asks_again, passed.asks_again, λ un. (told.asks_again un, λ r h. absurd (cc (h))));
  decides = λ o is ready. (own.decides o is ready, passed.decides o is ready, λ un. (told.decides o is ready un, λ r h. let same : LogRec.Heuristic s.node (node_key s.key) o ≡ r = cc (h) in subst (IsNext s.node s.key (in_log s)) same (refl, refl, (children_of s.rows, ready_log s.key s.phase (children_of s.rows) s.decision ready ∙ ap (λ (x : Option Outcome). Some (recovered s.key Phase.Ready (fresh_branches (children_of s.rows)) x)) (fresh o is)))));
  aborts = λ q is. (own.aborts q is, passed.aborts q is, λ un. (told.aborts q is un, λ r h. absurd (cc (h))));
  loses_arc = λ q gone. (own.loses_arc q gone, passed.loses_arc q gone, λ un. (told.loses_arc q gone un, λ r h. absurd (cc (h))));
  closes_left = λ q is. (own.closes_left q is, passed.closes_left q is, λ un. (told.closes_left q is un, λ r h. absurd (cc (h))));
  gives_up = λ q r is c found. (own.gives_up q r is c found, passed.gives_up q r is c found, λ un. (told.gives_up q r is c found un, λ r h. absurd (cc (h))));
  counts = λ q is act row. (own.counts q is act row, passed.counts q is act row, λ un. (told.counts q is act row un, λ r h. absurd (cc (h))));
  ends_done = λ q r is c row. (own.ends_done q r is c row, passed.ends_done q r is c row, λ un. (told.ends_done q r is c row un, λ r h. absurd (cc (h))));
  ends_replied = λ b w r is found o. (own.ends_replied b w r is found o, passed.ends_replied b w r is found o, λ un. (told.ends_replied b w r is found o un, λ r h. absurd (cc (h))));
  ends_rolled = λ q r is c row. (own.ends_rolled q r is c row, passed.ends_rolled q r is c row, λ un. (told.ends_rolled q r is c row un, λ r h. absurd (cc (h))));
  leaves_below = λ q w t is left at act. (own.leaves_below q w t is left at act, passed.leaves_below q w t is left at act, λ un. (told.leaves_below q w t is left at act un, λ r h. absurd (cc (h))));
  leaves_rolling = λ q w t is left at c. (own.leaves_rolling q w t is left at c, passed.leaves_rolling q w t is left at c, λ un. (told.leaves_rolling q w t is left at c un, λ r h. absurd (cc (h))));
  votes = λ t act asked all under. (own.votes t act asked all under, passed.votes t act asked all under, λ un. (told.votes t act asked all under un, next_vote t act));
  orders_root = λ t act asked all root. (own.orders_root t act asked all root, passed.orders_root t act asked all root, λ un. (told.orders_root t act asked all root un, next_order t (inl (active_none t.key t.phase (children_of t.rows) t.decision act, root))));
  orders_ready = λ ready is. (own.orders_ready ready is, passed.orders_ready ready is, λ un. (told.orders_ready ready is un, next_order s (inr (under is, (s.decision, ready_log s.key s.phase (children_of s.rows) s.decision ready)))));
  rolls = λ t asked f ok. (own.rolls t asked f ok, passed.rolls t asked f ok, λ un. (told.rolls t asked f ok un, next_rolls t asked ok));
  completes_commit = λ t c. (own.completes_commit t c, passed.completes_commit t c, λ un. (told.completes_commit t c un, next_completes t c));
  completes_rollback = λ t c. (own.completes_rollback t c, passed.completes_rollback t c, λ un. (told.completes_rollback t c un, λ r h. absurd (let no = quiet_rollback t in cc (no, h))));
  leaves = λ is act under asked all. (own.leaves is act under asked all, passed.leaves is act under asked all, λ un. (told.leaves is act under asked all un, λ r h. absurd (cc (h))));
}
  where
    own : Turns e s IsOwnTurn
    own = own_turns e s

    passed : Turns e s (IsPassed e s)
    passed = passed_turns e s

    told : Turns e s (λ t a. IsUndecided t → IsTold t a)
    told = told_turns e s

-- every event of a transaction
pub next_turn : (e : TxEvent) (s : Transaction) → IsPut e s → ((o : Outcome) → e ≡ TxEvent.Heur o → s.decision ≡ None) → (is_order_for e s ≡ true → is_under s.key ≡ true) → IsUndecided s → AreNext s (transacted e s)
next_turn e s put fresh under un = ((every_turn e s (IsNextTurn e s) (next_turns e s fresh under) put).2 un).1
