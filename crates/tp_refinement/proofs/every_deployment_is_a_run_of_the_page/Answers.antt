use Rattle.tp_refinement.specs.Deployed.{tree_at}
use Rattle.tp_tree_commit.proofs.Sentences.{keeps_sentences}
use Rattle.tp_refinement.proofs.Deployed.{deployments_refine, deployments_on_the_page}
use Rattle.tp_refinement.proofs.every_deployment_is_a_run_of_the_page.Goals as goal

pub returns : goal.returns
returns c = record {
  steps = deployments_refine;
  reached = deployments_on_the_page;
  sentences = λ qs ds arranged deployment t. keeps_sentences (tree_at qs ds t) (deployments_on_the_page qs ds arranged deployment t);
}
