-- What a deployment keeps: processes on machines, each site run by one process after the other on its own log, and a carrier that brings
-- a node only what was said to it.
use Rattle.std.specs.Prelude.{List, ◌++◌}
use Rattle.tp_model.specs.Happenings.{Happening, run}
use Rattle.tp_outcomes.specs.Staying.{OutcomesStay}
use Rattle.tp_deployments.specs.Deployments.{Deed, Place, AreArranged, IsDeployment}
use Rattle.tp_deployments.specs.RunOf.{IsRunOf}
use Rattle.tp_laws.specs.Whole.{AllPromised}

-- what is promised of the world that a run leaves, together
abbrev pub DeploymentsKeep : Type 0
DeploymentsKeep = (qs : List Place) (ds : List Deed) → AreArranged qs → IsDeployment qs ds
    → (es : List Happening) × IsRunOf qs ds (run es) × AllPromised (run es)

-- and what a node was told or decided in a tree, and that it logged Commit, rolled, left or was complete with no report, stays so,
-- whatever happens after it
abbrev pub DeploymentsStay : Type 0
DeploymentsStay =
    (qs : List Place) (more ds : List Deed) → AreArranged qs → IsDeployment qs (more ++ ds)
    → (es : List Happening) × (us : List Happening) × IsRunOf qs ds (run es) × IsRunOf qs (more ++ ds) (run (us ++ es)) × OutcomesStay us es
