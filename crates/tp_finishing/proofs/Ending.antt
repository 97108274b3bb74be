-- What recovery makes of a node without associations, and what it costs after it: the superior's answer, its user's done, and a branch's.
use Rattle.std.proofs.Common.{if◌then◌else◌, ◌≡◌, ℕ, suc, ◌≤◌, ◌+◌, ◌*◌, Bool, true, false, refl, ap, sym, subst, ◌∙◌, arith, Option, Some, None, List, [], ◌∷◌, ◌&&◌, ◌||◌, ◌==◌, not, length}
use Rattle.tp_names.specs.declared.identifiers.Aaid.{Aaid}
use Rattle.tp_names.specs.declared.identifiers.Addr.{Addr}
use Rattle.tp_names.specs.declared.identifiers.BranchId.{BranchId}
use Rattle.tp_names.specs.declared.outcome.Outcome.{Outcome}
use Rattle.tp_names.specs.declared.outcome.Report.{Report}
use Rattle.tp_steps.proofs.lemmas.Options.{some_same}
use Rattle.tp_names.specs.Reports.{join, is_report_none}
use Rattle.tp_records.specs.declared.request.Request.{Request}
use Rattle.tp_records.specs.declared.peer.RecState.{RecState}
use Rattle.tp_logrec.specs.declared.record.LogRec.{LogRec}
use Rattle.tp_model.specs.declared.arc.Phase.{Phase}
use Rattle.tp_model.specs.declared.transaction.TxEvent.{TxEvent}
use Rattle.tp_model.specs.Parts.{Who, Key, Root, Under, Branch, Current, Digest}
use Rattle.tp_model.specs.Dialogues.{is_active, is_rolling}
use Rattle.tp_model.specs.Transactions.{is_under, node_key, owed_of, Row, Transaction, Turn, turn, and_then, tell_report, is_open_in_commit, find_row, find_row_by_id, put_row, with_branch, all_done, all_rolled_back, reports_of, own_damage, log_end, log_damage, rollback_rec, is_own_commit, complete_commit, complete_rollback, begin_rolling, order, end_branch, transacted}
use Rattle.tp_model.specs.Recovery.{is_root_key, kept_by, kept_after}
use Rattle.tp_model.specs.Node.{seen, seen_row, seen_rows, branches_of, remaining}
use Rattle.tp_finishing.specs.Finishing.{count_open, lines_to_forget, lines_of_current, lines_of_kept, lines_at}
use Rattle.tp_finishing.specs.Quiet.{IsQuietAt}
use Rattle.tp_finishing.proofs.Hearing.{doubting}
use Rattle.tp_finishing.proofs.Retries.{seen_again}
use Rattle.tp_finishing.proofs.Still.{left_by}
use Rattle.tp_finishing.proofs.Costs.{open_less, cost_of_commit, cost_of_rec, kept_less, owed_open}

-- what is left is quiet, and costs so much less
pub record Lowers (n cost : ℕ) (e : Digest) : Type 0 where
  pub quiet : IsQuietAt e
  pub less : lines_at e + n ≤ cost

-- what stays of a transaction is neither active nor rolling
abbrev IsCalm : Option Current → Type 0
IsCalm o = (is_active (elim o as (λ _. Phase) [ None ↦ Phase.Nil | Some c ↦ c.phase ]) ≡ false) × (is_rolling (elim o as (λ _. Phase) [ None ↦ Phase.Nil | Some c ↦ c.phase ]) ≡ false)

-- ---- a commitment that may be complete

record Completes (t : Transaction) (a : Turn) : Type 0 where
  calm : IsCalm (remaining a.next)
  less : lines_of_current (remaining a.next) + cost_of_rec a.rec ≤ cost_of_commit (is_under t.key) false (branches_of t.rows)

abbrev committing : Transaction → Transaction
committing t = record t { phase = Phase.Committing; owes = false }

completes : (t : Transaction) → Completes t (complete_commit (committing t))
unfolding complete_commit
completes t = go (all_done t.rows) refl (is_report_none r) refl
  where
    r : Report
    r = join (own_damage t.decision) (reports_of t.rows)

    root : (k : Key) → lines_to_forget (not (is_root_key (node_key k))) ≡ lines_to_forget (is_under k)
    root (Root a) = refl
    root (Under a b s) = refl

    clear : (n m : ℕ) → 0 + 0 ≤ 0 + n + 3 * m
    clear n m = omega arith

    kept : (n k l m : ℕ) → n ≡ k → l ≡ m → 0 + (n + 3 * l) ≤ 0 + k + 3 * m
    kept n k l m i j = omega (arith, i, j)

    waits : (n m : ℕ) → (0 + n + 3 * m) + 0 ≤ 0 + n + 3 * m
    waits n m = omega arith

    go : (b : Bool) → all_done t.rows ≡ b → (c : Bool) → is_report_none r ≡ c → Completes t (complete_commit (committing t))
    go true i true j = rw (i, j) (record { calm = (refl, refl); less = clear (lines_to_forget (is_under t.key)) (count_open (branches_of t.rows)) })
    go true i false j = rw (i, j) (record { calm = (refl, refl); less = kept (lines_to_forget (not (is_root_key (node_key t.key)))) (lines_to_forget (is_under t.key)) (length (owed_of t.rows)) (count_open (branches_of t.rows)) (root t.key) (owed_open t.rows) })
    go false i c j = rw i (record { calm = (refl, refl); less = waits (lines_to_forget (is_under t.key)) (count_open (branches_of t.rows)) })

-- ---- the user has finished

abbrev pub ordered : Current → Current
ordered c = record c { phase = Phase.Committing; owes = true }

pub done_commits : (who : Who) (d : Digest) (c : Current) → Lowers 1 (lines_of_current (Some (ordered c)) + lines_of_kept d.kept) (left_by who (TxEvent.User Request.Done) d (ordered c))
done_commits who d c = record {
  quiet = record { arcs = refl; active = k.calm.0; rolling = k.calm.1 };
  less =
      total (lines_of_kept (kept_after a.rec d.kept)) (lines_of_kept d.kept) (lines_of_current (remaining a.next)) (cost_of_rec a.rec) (lines_to_forget (is_under c.key)) (count_open (branches_of t.rows)) (count_open c.branches) (kept_less a.rec d.kept) k.less
      (ap count_open (seen_again [] c.branches));
}
  where
    t : Transaction
    t = seen who [] (ordered c)

    a : Turn
    a = complete_commit (committing t)

    k : Completes t a
    k = completes t

    total : (l m v w u o p : ℕ) → l ≤ m + w → v + w ≤ 0 + u + 3 * o → o ≡ p → v + l + 1 ≤ 1 + u + 3 * p + m
    total l m v w u o p h i j = omega (arith, h, i, j)

-- ---- the superior's answer

pub answer_commits : (who : Who) (d : Digest) (c : Current) (t : Aaid) (b : BranchId) (a : Addr) → Lowers 3 (lines_of_current (Some (doubting c t b a)) + lines_of_kept d.kept) (left_by who (TxEvent.Reply b RecState.Commit) d (doubting c t b a))
unfolding order kept_by
answer_commits who d c t b a = record {
  quiet = record { arcs = refl; active = refl; rolling = refl };
  less = let same = ap count_open (seen_again [] c.branches) in let few = open_less c.branches in omega (arith, same, few);
}

-- it rolls, and its user owes that it has finished
pub record RollsIn (who : Who) (d : Digest) (f : TxEvent) (c : Current) : Type 0 where
  pub current : Current
  pub at : (left_by who f d c).current ≡ Some current
  pub rolling : is_rolling current.phase ≡ true
  pub owes : current.owes ≡ true
  pub told : current.superior_rolled ≡ true
  pub less : lines_of_kept (left_by who f d c).kept ≤ 3 + lines_of_kept d.kept

pub answer_rolls : (who : Who) (d : Digest) (c : Current) (t : Aaid) (b : BranchId) (a : Addr) → RollsIn who d (TxEvent.Reply b RecState.Unknown) (doubting c t b a)
unfolding begin_rolling complete_rollback
answer_rolls who d c t b a = record { current = _; at = refl; rolling = refl; owes = refl; told = refl; less = less }
  where
    q : Transaction
    q = record (seen who [] (doubting c t b a)) { superior_rolled = true }

    few : (o : Bool) → cost_of_rec (if o then Some (log_damage q Outcome.Rollback Report.Mix []) else Some (log_end q Outcome.Rollback)) ≤ 3
    few true = omega arith
    few false = omega arith

    total : (l m v : ℕ) → l ≤ m + v → v ≤ 3 → l ≤ 3 + m
    total l m v h i = omega (arith, h, i)

    less : lines_of_kept (kept_after (rollback_rec q) d.kept) ≤ 3 + lines_of_kept d.kept
    less = total (lines_of_kept (kept_after (rollback_rec q) d.kept)) (lines_of_kept d.kept) (cost_of_rec (rollback_rec q)) (kept_less (rollback_rec q) d.kept) (few (is_own_commit q))

abbrev pub rolling : Current → Current
rolling c = record c { phase = Phase.Rolling; superior_rolled = true; owes = true }

pub all_gone : (bs : List Branch) → all_rolled_back (seen_rows [] bs) ≡ true
all_gone [] = refl
all_gone (b ∷ bs) = go b.ended b.left (all_gone bs)
  where
    go : (e l : Bool) → all_rolled_back (seen_rows [] bs) ≡ true → ((e || l || true) && all_rolled_back (seen_rows [] bs)) ≡ true
    go e l h = grind (arith, h)

pub done_rolls : (who : Who) (d : Digest) (c : Current) → Lowers 0 (lines_of_kept d.kept) (left_by who (TxEvent.User Request.Done) d (rolling c))
unfolding complete_rollback
done_rolls who d c = go (all_rolled_back (seen_rows [] c.branches)) (all_gone c.branches) refl
  where
    go : (b : Bool) → all_rolled_back (seen_rows [] c.branches) ≡ true → all_rolled_back (seen_rows [] c.branches) ≡ b → Lowers 0 (lines_of_kept d.kept) (left_by who (TxEvent.User Request.Done) d (rolling c))
    go true h i = rw i (record { quiet = record { arcs = refl; active = refl; rolling = refl }; less = omega arith })
    go false h i = absurd (cc (h, i))

-- ---- a branch's answer

abbrev pub waiting : Current → Current
waiting c = record c { phase = Phase.Committing; owes = false }

-- the branch that is found by its identifier and by its peer, and is open
pub record OpenIn (bs : List Branch) (v : Branch) : Type 0 where
  pub by_id : find_row_by_id (seen_rows [] bs) v.id ≡ Some (seen_row [] v)
  pub by_peer : find_row (seen_rows [] bs) v.peer.node ≡ Some (seen_row [] v)
  pub left : v.left ≡ false
  pub ended : v.ended ≡ false

ended_less : (rows : List Row) (r n : Row) → find_row rows n.branch.peer.node ≡ Some r → r.branch.left ≡ false → r.branch.ended ≡ false → n.branch.ended ≡ true → suc (count_open (branches_of (put_row rows n))) ≡ count_open (branches_of rows)
ended_less [] r n h l e o = absurd (cc (h))
ended_less (x ∷ rows) r n h l e o = go (x.branch.peer.node == n.branch.peer.node) h (λ k. ended_less rows r n k l e o)
  where
    left_or : (b : Bool) → n.branch.left ≡ b → (n.branch.left || n.branch.ended) ≡ true
    left_or b i = grind (arith, o)

    go : (v : Bool) → (if v then Some x else find_row rows n.branch.peer.node) ≡ Some r → (find_row rows n.branch.peer.node ≡ Some r → suc (count_open (branches_of (put_row rows n))) ≡ count_open (branches_of rows))
        → suc (count_open (branches_of (if v then n ∷ rows else x ∷ put_row rows n))) ≡ count_open (branches_of (x ∷ rows))
    go true k rest =
        let same : x ≡ r = some_same x r k in
        let off : (x.branch.left || x.branch.ended) ≡ false = ap (λ (z : Row). z.branch.left || z.branch.ended) same ∙ rw (l, e) refl in
        let on = left_or n.branch.left refl in
        rw (on, off) refl
    go false k rest = by (x.branch.left || x.branch.ended) (rest k)
      where
        by : (b : Bool) → suc (count_open (branches_of (put_row rows n))) ≡ count_open (branches_of rows)
            → suc (if b then count_open (branches_of (put_row rows n)) else suc (count_open (branches_of (put_row rows n)))) ≡ (if b then count_open (branches_of rows) else suc (count_open (branches_of rows)))
        by true h = h
        by false h = ap suc h

abbrev ended_row : Row → Report → Row
ended_row w r = record w { branch = record w.branch { ended = true; report = r } }

pub reply_ends : (who : Who) (d : Digest) (c : Current) (v : Branch) (r : Report) → OpenIn c.branches v → Lowers 3 (lines_of_current (Some (waiting c)) + lines_of_kept d.kept) (left_by who (TxEvent.Reply v.id (RecState.Done r)) d (waiting c))
unfolding end_branch
reply_ends who d c v r is = subst (λ (a : Turn). Lowers 3 (lines_of_current (Some (waiting c)) + lines_of_kept d.kept) (record d { arcs = []; current = remaining a.next; kept = kept_after a.rec d.kept })) (sym turned) done
  where
    t : Transaction
    t = seen who [] (waiting c)

    u : Transaction
    u = record t { rows = put_row t.rows (ended_row (seen_row [] v) r) }

    k : Completes u (complete_commit (committing u))
    k = completes u

    a : Turn
    a = and_then (turn (tell_report v.peer.node r) u) complete_commit

    row : with_branch t v.peer.node (λ b. record b { ended = true; report = r }) ≡ u
    row = ap (λ (o : Option Row). elim o as (λ _. Transaction) [ None ↦ t | Some w ↦ record t { rows = put_row t.rows (ended_row w r) } ]) is.by_peer

    is_open : is_open_in_commit t v ≡ true
    is_open = rw (is.left, is.ended) refl

    turned : transacted (TxEvent.Reply v.id (RecState.Done r)) t ≡ a
    turned =
        ap (λ (o : Option Row). elim o as (λ _. Turn) [ None ↦ turn [] t | Some w ↦ if is_open_in_commit t w.branch then and_then (end_branch w.branch.peer.node r t) complete_commit else turn [] t ]) is.by_id
        ∙ ap (λ (b : Bool). if b then and_then (end_branch v.peer.node r t) complete_commit else turn [] t) is_open
        ∙ ap (λ (z : Transaction). and_then (turn (tell_report v.peer.node r) z) complete_commit) row

    rec : a.rec ≡ (complete_commit u).rec
    rec = go (complete_commit u).rec
      where
        go : (o : Option LogRec) → elim o as (λ _. Option LogRec) [ None ↦ None | Some x ↦ Some x ] ≡ o
        go None = refl
        go (Some x) = refl

    total : (l m v w n o p q : ℕ) → l ≤ m + w → v + w ≤ 0 + n + 3 * o → suc o ≡ p → p ≡ q → v + l + 3 ≤ 0 + n + 3 * q + m
    total l m v w n o p q h i j z = omega (arith, h, i, j, z)

    done : Lowers 3 (lines_of_current (Some (waiting c)) + lines_of_kept d.kept) (record d { arcs = []; current = remaining a.next; kept = kept_after a.rec d.kept })
    done = record {
      quiet = record { arcs = refl; active = k.calm.0; rolling = k.calm.1 };
      less =
          total (lines_of_kept (kept_after a.rec d.kept)) (lines_of_kept d.kept) (lines_of_current (remaining a.next)) (cost_of_rec (complete_commit u).rec) (lines_to_forget (is_under c.key)) (count_open (branches_of u.rows)) (count_open (branches_of t.rows)) (count_open c.branches)
          (subst (λ (o : Option LogRec). lines_of_kept (kept_after a.rec d.kept) ≤ lines_of_kept d.kept + cost_of_rec o) rec (kept_less a.rec d.kept)) k.less
          (ended_less t.rows (seen_row [] v) (ended_row (seen_row [] v) r) is.by_peer is.left is.ended refl) (ap count_open (seen_again [] c.branches));
    }
