-- The current transaction is what the records of the history give: an instance of the steps of a node.
use Rattle.std.proofs.Common.{◌≡◌, true, refl, ap, sym, ◌∙◌, arith, Option, Some, None, List, [], ◌∷◌}
use Rattle.tp_model.specs.declared.arc.Phase.{Phase}
use Rattle.tp_model.specs.declared.transaction.TxEvent.{TxEvent}
use Rattle.tp_model.specs.Parts.{Who, Arc, Branch, Current, Digest}
use Rattle.tp_model.specs.Dialogues.{is_active}
use Rattle.tp_model.specs.Transactions.{Row, Transaction, children_of, transacted}
use Rattle.tp_model.specs.Node.{seen, seen_rows, branches_of, remaining, turned}
use Rattle.tp_model.specs.Events.{fresh_branches, named_again, recovered, recovered_current}
use Rattle.tp_steps.specs.Moves.{IsPut}
use Rattle.tp_steps.specs.Standing.{standing, in_log, current_after, IsTold}
use Rattle.tp_steps.proofs.log.TurnLog.{told_turn}

-- ---- what stands in the log of a current transaction

named_rows : (rows : List Row) → named_again (branches_of rows) ≡ fresh_branches (children_of rows)
named_rows [] = refl
named_rows (r ∷ rows) = let rest = named_rows rows in grind (arith, rest)

pub named_seen : (arcs : List Arc) (bs : List Branch) → named_again bs ≡ fresh_branches (children_of (seen_rows arcs bs))
named_seen arcs [] = refl
named_seen arcs (b ∷ bs) = let rest = named_seen arcs bs in grind (arith, rest)

pub left_in_log : (t : Transaction) → recovered_current (remaining t) ≡ in_log t
left_in_log t = go t.phase
  where
    go : (p : Phase) → recovered_current (remaining (record t { phase = p })) ≡ standing t.key p (children_of t.rows) t.decision
    go Phase.Nil = refl
    go Phase.Active = refl
    go Phase.Ready = ap (λ (l : List Branch). Some (recovered t.key Phase.Ready l t.decision)) (named_rows t.rows)
    go Phase.Committing = ap (λ (l : List Branch). Some (recovered t.key Phase.Committing l t.decision)) (named_rows t.rows)
    go Phase.Rolling = refl

pub seen_in_log : (who : Who) (arcs : List Arc) (c : Current) → recovered_current (Some c) ≡ in_log (seen who arcs c)
seen_in_log who arcs c = go c.phase
  where
    go : (p : Phase) → recovered_current (Some (record c { phase = p })) ≡ standing c.key p (children_of (seen_rows arcs c.branches)) c.decision
    go Phase.Nil = refl
    go Phase.Active = refl
    go Phase.Ready = ap (λ (l : List Branch). Some (recovered c.key Phase.Ready l c.decision)) (named_seen arcs c.branches)
    go Phase.Committing = ap (λ (l : List Branch). Some (recovered c.key Phase.Committing l c.decision)) (named_seen arcs c.branches)
    go Phase.Rolling = refl

-- an event of the current transaction at the node
pub turned_in_log : (who : Who) (f : TxEvent) (d : Digest) (c : Current) → d.current ≡ Some c → IsPut f (seen who d.arcs c) → (is_active c.phase ≡ true → c.decision ≡ None)
    → current_after (turned who f d c).rec (recovered_current d.current) ≡ recovered_current (turned who f d c).next.current
turned_in_log who f d c now put un =
    let t : Transaction = seen who d.arcs c in
    let told : IsTold t (transacted f t) = told_turn f t put un in
    ap (λ (o : Option Current). current_after (transacted f t).rec (recovered_current o)) now
    ∙ ap (current_after (transacted f t).rec) (seen_in_log who d.arcs c)
    ∙ told.log
    ∙ sym (left_in_log (transacted f t).next)
