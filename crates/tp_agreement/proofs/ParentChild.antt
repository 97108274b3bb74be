-- In every run, what is promised between a node and its branches.
use Rattle.std.proofs.Common.{◌≡◌, true, List}
use Rattle.tp_names.specs.declared.identifiers.Aaid.{Aaid}
use Rattle.tp_model.specs.Outcomes.{has_left}
use Rattle.tp_model.specs.World.{Node}
use Rattle.tp_model.specs.Happenings.{Happening, run}
use Rattle.tp_model.specs.Promises.{IsBelow, itself, below, ParentAndChild}
use Rattle.tp_runs.proofs.Family.{commits_up}
use Rattle.tp_runs.proofs.Left.{left_is_not_rolled}
use Rattle.tp_runs.proofs.Bare.{left_is_bare}
use Rattle.tp_agreement.proofs.RollsUp.{rolls_up, left_down, ready_down}
use Rattle.tp_agreement.proofs.CountedBranch.{counted_is_logged, rolled_is_uncounted}

-- leaving goes down all the way
left_below : (es : List Happening) (t : Aaid) (x y : Node) → has_left x.origin t x.history ≡ true → IsBelow (run es) t x y → has_left y.origin t y.history ≡ true
left_below es t x y l itself = l
left_below es t x z l (below b y v under branch) = left_down es t b y v branch (left_below es t x y l under)

pub parent_and_child : (es : List Happening) → ParentAndChild (run es)
parent_and_child es = record {
  commits_up = commits_up es;
  ready_down = ready_down es;
  counted_is_logged = counted_is_logged es;
  rolls_up = rolls_up es;
  rolled_is_uncounted = rolled_is_uncounted es;
  left_is_bare = left_is_bare es;
  left_is_not_rolled = left_is_not_rolled es;
  left_goes_down = λ t x y of l under. left_below es t x y l under;
}
