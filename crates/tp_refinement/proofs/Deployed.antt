-- A deployment is a run, and so a run of the page.
use Rattle.std.proofs.Common.{refl, subst, List, [], ◌∷◌, ◌++◌}
use Rattle.tp_names.specs.declared.identifiers.Aaid.{Aaid}
use Rattle.tp_model.specs.World.{Node}
use Rattle.tp_model.specs.Happenings.{Happening, run}
use Rattle.tp_tree_commit.specs.TreeCommit.{Reached}
use Rattle.tp_tree_commit.specs.Walks.{Walks, stays}
use Rattle.tp_refinement.specs.Refinement.{tree_among, tree_in}
use Rattle.tp_refinement.specs.Deployed.{tree_at, DeploymentsRefine, DeploymentsAreOnThePage}
use Rattle.tp_deployments.proofs.Deployed.{a_deployment, a_deployment_on}
use Rattle.tp_tree_commit.proofs.lemmas.Walks.{walks_then}
use Rattle.tp_refinement.proofs.Happens.{runs_refine, runs_on_the_page}

more_walks : (more es : List Happening) (t : Aaid) → Walks (tree_in (run es) t) (tree_in (run (more ++ es)) t)
more_walks [] es t = stays (tree_in (run es) t) (tree_in (run es) t) (λ m. refl)
more_walks (e ∷ more) es t = walks_then (tree_in (run es) t) (tree_in (run (more ++ es)) t) (tree_in (run (e ∷ (more ++ es))) t) (more_walks more es t) (runs_refine e (more ++ es) t)

pub deployments_refine : DeploymentsRefine
deployments_refine qs more ds arranged deployment t =
    let r = a_deployment_on qs more ds arranged deployment in
    subst (λ (l : List Node). Walks (tree_at qs ds t) (tree_among l t)) r.3.nodes (subst (λ (l : List Node). Walks (tree_among l t) (tree_in (run (r.1 ++ r.0)) t)) r.2.nodes (more_walks r.1 r.0 t))

pub deployments_on_the_page : DeploymentsAreOnThePage
deployments_on_the_page qs ds arranged deployment t =
    let r = a_deployment qs ds arranged deployment in
    subst (λ (l : List Node). Reached (tree_among l t)) r.1.nodes (runs_on_the_page r.0 t)
