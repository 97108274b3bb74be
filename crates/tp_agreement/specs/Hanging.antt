-- How the nodes of a tree hang together, and what agreement rests on.
use Rattle.std.specs.Prelude.{◌≡◌, ◌⊎◌, true}
use Rattle.tp_names.specs.declared.identifiers.Aaid.{Aaid}
use Rattle.tp_names.specs.declared.identifiers.BranchId.{BranchId}
use Rattle.tp_model.specs.Outcomes.{rolled, has_left}
use Rattle.tp_model.specs.World.{World, Node}
use Rattle.tp_model.specs.Promises.{IsBranchOf, has_logged, is_bound_of, is_ready_of_branch}

-- ---- what agreement rests on, between a node and its branch

abbrev pub ReadyDown : World → Type 0
ReadyDown w = (t : Aaid) (b : BranchId) (x y : Node) → IsBranchOf w t b x y → has_logged (is_bound_of t) x ≡ true
    → (has_left y.origin t y.history ≡ true) ⊎ (has_logged (is_ready_of_branch t b) y ≡ true)

abbrev pub LeftDown : World → Type 0
LeftDown w = (t : Aaid) (b : BranchId) (x y : Node) → IsBranchOf w t b x y → has_left x.origin t x.history ≡ true → has_left y.origin t y.history ≡ true

-- a ready branch rolls only with its superior
abbrev pub RollsUp : World → Type 0
RollsUp w =
    (t : Aaid) (b : BranchId) (x y : Node) → IsBranchOf w t b x y → has_logged (is_ready_of_branch t b) y ≡ true → rolled y.origin t y.history ≡ true
    → rolled x.origin t x.history ≡ true
