-- The closing lines of a recording: a function of what each node went through, and of nothing else. What happened first at two sites is
-- not recorded, and no line depends on it.
use Rattle.std.specs.Prelude.{◌≡◌, List, [], ◌∷◌, ◌++◌}
use Rattle.tp_names.specs.declared.identifiers.Aaid.{Aaid}
use Rattle.tp_model.specs.declared.out_line.OutLine.{OutLine}
use Rattle.tp_model.specs.World.{World, Node}
use Rattle.tp_model.specs.Happenings.{Happening, run}
use Rattle.tp_model.specs.Trees.{closing_from}
use Rattle.tp_outcomes.specs.Starting.{starts, times_in}
use Rattle.tp_deployments.specs.Deployments.{Deed, AreArranged}
use Rattle.tp_deployments.specs.RunOf.{nodes_of, IsRunOf}
use Rattle.tp_weaving.specs.Frames.{Record, Recording}
use Rattle.tp_weaving.specs.Parts.{AreApart, IsWovenOf}

-- the deeds of all sites, one site after the other
abbrev pub deeds_of : List Record → List Deed
deeds_of [] = []
deeds_of (r ∷ rs) = r.deeds ++ deeds_of rs

-- the nodes in the order of their places, each with its whole history
abbrev pub nodes_told : Recording → List Node
nodes_told t = nodes_of t.places (deeds_of t.records)

-- the trees that the nodes began, those of each node in the order in which it began them
abbrev pub trees_begun : List Node → List Aaid
trees_begun [] = []
trees_begun (n ∷ ns) = starts n.origin n.history ++ trees_begun ns

abbrev pub closing_told : Recording → List OutLine
closing_told t = closing_from (nodes_told t) (trees_begun (nodes_told t))

-- the lines are those that close the transcript of that world: one for each of its trees, in this order
pub record AreClosing (lines : List OutLine) (w : World) : Type 0 where
  pub trees : List Aaid
  pub lines_are : lines ≡ closing_from w.nodes trees
  pub each : (u : Aaid) → times_in u trees ≡ times_in u w.trees

-- **whatever the order in which the deeds of the sites happened**, every run that they are closes with these lines
abbrev pub ClosesEveryRun : Type 0
ClosesEveryRun =
    (t : Recording) (ds : List Deed) (es : List Happening) → AreArranged t.places → AreApart t.records → IsWovenOf t.records ds → IsRunOf t.places ds (run es)
    → AreClosing (closing_told t) (run es)
