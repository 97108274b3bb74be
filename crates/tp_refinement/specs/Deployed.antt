-- What processes on machines leave of a tree, and that it is a run of the page too.
use Rattle.std.specs.Prelude.{List, ◌++◌}
use Rattle.tp_names.specs.declared.identifiers.Aaid.{Aaid}
use Rattle.tp_deployments.specs.Deployments.{Place, Deed, AreArranged, IsDeployment}
use Rattle.tp_deployments.specs.RunOf.{nodes_of}
use Rattle.tp_tree_commit.specs.TreeCommit.{Tree, Reached}
use Rattle.tp_tree_commit.specs.Walks.{Walks}
use Rattle.tp_refinement.specs.Refinement.{tree_among}

-- by the histories that the processes of its site gave each node
abbrev pub tree_at : List Place → List Deed → Aaid → Tree
tree_at qs ds t = tree_among (nodes_of qs ds) t

-- whatever more the processes do is steps of the page, in every tree
abbrev pub DeploymentsRefine : Type 0
DeploymentsRefine = (qs : List Place) (more ds : List Deed) → AreArranged qs → IsDeployment qs (more ++ ds) → (t : Aaid)
    → Walks (tree_at qs ds t) (tree_at qs (more ++ ds) t)

abbrev pub DeploymentsAreOnThePage : Type 0
DeploymentsAreOnThePage = (qs : List Place) (ds : List Deed) → AreArranged qs → IsDeployment qs ds → (t : Aaid) → Reached (tree_at qs ds t)
