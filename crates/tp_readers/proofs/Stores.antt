-- What is promised of stores at the nodes of a run is so of those of a deployment.
use Rattle.std.proofs.Common.{List}
use Rattle.tp_model.specs.World.{Node}
use Rattle.tp_model.specs.Happenings.{Happening, run}
use Rattle.tp_model.specs.Promises.{IsIn}
use Rattle.tp_bound.proofs.Committing.{content_is_of_branches}
use Rattle.tp_deployments.specs.RunOf.{IsRunOf}
use Rattle.tp_deployments.proofs.Deployed.{a_deployment}
use Rattle.tp_processes.specs.Deployed.{standing}
use Rattle.tp_stores.specs.Served.{AreOfBranches, HoldsItsBranches, CountsCommits}
use Rattle.tp_stores.proofs.Agree.{stores_agree}
use Rattle.tp_stores.proofs.Served.{of_branches}
use Rattle.tp_stores.proofs.Counted.{counts_commits}
use Rattle.tp_readers.specs.Stores.{StoresAgreeThere, StoresHoldTheirBranches}
use Rattle.tp_readers.proofs.Nodes.{in_run}

pub agree_there : StoresAgreeThere
agree_there qs ds arr dep t x y hs gs here there = stores_agree r.0 t x y hs gs (in_run qs ds (run r.0) x r.1.nodes here) (in_run qs ds (run r.0) y r.1.nodes there)
  where
    r : (es : List Happening) × IsRunOf qs ds (run es)
    r = a_deployment qs ds arr dep

pub hold_there : StoresHoldTheirBranches
hold_there qs ds arr dep = (of, hold, counts)
  where
    r : (es : List Happening) × IsRunOf qs ds (run es)
    r = a_deployment qs ds arr dep

    back : (x : Node) → IsIn (standing qs ds) x → IsIn (run r.0) x
    back x here = in_run qs ds (run r.0) x r.1.nodes here

    of : AreOfBranches (standing qs ds)
    of x hs here = of_branches r.0 x hs (back x here)

    hold : HoldsItsBranches (standing qs ds)
    hold x first last hs here alone served none no_current hears = content_is_of_branches first last hs none no_current hears (of x hs here alone served)

    counts : CountsCommits (standing qs ds)
    counts = record {
      counted_is_told = λ t x hs here. (counts_commits r.0).counted_is_told t x hs (back x here);
      told_is_counted = λ t x hs here. (counts_commits r.0).told_is_counted t x hs (back x here);
    }
