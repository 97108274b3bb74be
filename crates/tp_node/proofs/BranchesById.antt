-- The branches of a transaction that a recovery record speaks of.
use Rattle.std.proofs.Common.{◌≡◌, Option, Some, None, List, [], ◌∷◌, refl, arith}
use Rattle.std.specs.Option.{is_some}
use Rattle.std.proofs.lemmas.Grind.{common_steps}
use Rattle.tp_names.specs.declared.identifiers.Addr.{Addr}
use Rattle.tp_names.specs.declared.identifiers.BranchId.{BranchId}
use Rattle.tp_model.specs.Parts.{Branch}
use Rattle.tp_model.specs.Transactions.{Row, Transaction}
use Rattle.tp_model.specs.Node.{branches_of}
use Rattle.tp_model.specs.Arrivals.{find_branch_by_id, is_branch_of}
use Rattle.tp_commit.specs.Branch.{child_at}
use Rattle.tp_node.specs.Node.{current_of}

peer_of : Option Branch → Option Addr
peer_of None = None
peer_of (Some x) = Some x.peer

pub child_known : (rows : List Row) (b : BranchId) → child_at rows b ≡ elim (find_branch_by_id (branches_of rows) b) as (λ _. Option Addr) [ None ↦ None | Some x ↦ Some x.peer ]
child_known [] b = grind arith
child_known (r ∷ rows) b = grind (arith, common_steps, child_known rows b)

pub known_there : (t : Transaction) (b : BranchId) → is_some (child_at t.rows b) ≡ is_branch_of (current_of t) b
known_there t b = go (find_branch_by_id (branches_of t.rows) b) refl
  where
    go : (o : Option Branch) → find_branch_by_id (branches_of t.rows) b ≡ o → is_some (child_at t.rows b) ≡ is_branch_of (current_of t) b
    go None e = grind (arith, e, child_known t.rows b)
    go (Some x) e = grind (arith, e, child_known t.rows b)
