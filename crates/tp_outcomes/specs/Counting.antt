-- A branch that is counted is there.
use Rattle.std.specs.Prelude.{◌≡◌, true}
use Rattle.tp_names.specs.declared.identifiers.Aaid.{Aaid}
use Rattle.tp_names.specs.declared.identifiers.BranchId.{BranchId}
use Rattle.tp_model.specs.World.{World, Node}
use Rattle.tp_model.specs.Promises.{IsIn, IsBranchOf, is_counted, has_logged, is_ready_of_branch}

-- where a node counts a branch, there is a node at its end, which is in the tree as that branch and logged Ready for it
abbrev pub CountedIsThere : World → Type 0
CountedIsThere w =
    (t : Aaid) (b : BranchId) (x : Node) → IsIn w x → is_counted t b x ≡ true
    → (y : Node) × IsBranchOf w t b x y × (has_logged (is_ready_of_branch t b) y ≡ true)
