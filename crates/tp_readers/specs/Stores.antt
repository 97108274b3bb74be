-- Stores at the nodes of a deployment: what is promised of those at the nodes of a run.
use Rattle.std.specs.Prelude.{List}
use Rattle.tp_deployments.specs.Deployments.{Deed, Place, AreArranged, IsDeployment}
use Rattle.tp_processes.specs.Deployed.{standing}
use Rattle.tp_stores.specs.Stores.{StoresAgree}
use Rattle.tp_stores.specs.Served.{AreOfBranches, HoldsItsBranches, CountsCommits}

abbrev pub StoresAgreeThere : Type 0
StoresAgreeThere = (qs : List Place) (ds : List Deed) → AreArranged qs → IsDeployment qs ds → StoresAgree (standing qs ds)

abbrev pub StoresHoldTheirBranches : Type 0
StoresHoldTheirBranches = (qs : List Place) (ds : List Deed) → AreArranged qs → IsDeployment qs ds
    → AreOfBranches (standing qs ds) × HoldsItsBranches (standing qs ds) × CountsCommits (standing qs ds)
