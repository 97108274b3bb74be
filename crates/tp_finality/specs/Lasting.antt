-- A tree that was settled once, and what happens to its nodes after that: the premises are asked of the time until then alone, and
-- of that only of the time in which the tree was current at its nodes.
use Rattle.std.specs.Prelude.{◌≡◌, true, List, ◌++◌}
use Rattle.tp_names.specs.declared.identifiers.Aaid.{Aaid}
use Rattle.tp_names.specs.declared.outcome.Outcome.{Outcome}
use Rattle.tp_model.specs.declared.out_line.OutLine.{OutLine}
use Rattle.tp_model.specs.Trees.{stays, members_of, closing_line}
use Rattle.tp_model.specs.World.{Node}
use Rattle.tp_model.specs.Happenings.{Happening, run}
use Rattle.tp_model.specs.Promises.{IsOf, HasCommitted}
use Rattle.tp_failure_free.specs.DrainedTrees.{IsSettledTree}

-- after the happenings es the tree is settled; after more of them, every node of the tree that stays has committed
abbrev pub CommittedForGood : List Happening → List Happening → Type 0
CommittedForGood more es = (t : Aaid) → IsSettledTree (run es) t → (y : Node) → IsOf (run (more ++ es)) t y → stays t y ≡ true → HasCommitted t y

-- and the tree's closing line says that all agree on commitment
abbrev pub ClosedForGood : List Happening → List Happening → Type 0
ClosedForGood more es = (t : Aaid) → IsSettledTree (run es) t → closing_line t (members_of t (run (more ++ es)).nodes) ≡ OutLine.Agreed t Outcome.Commit
