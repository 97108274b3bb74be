use Rattle.tp_model.specs.Happenings.{run}
use Rattle.tp_refinement.specs.Refinement.{tree_in}
use Rattle.tp_tree_commit.proofs.Sentences.{keeps_sentences}
use Rattle.tp_refinement.proofs.Happens.{runs_on_the_page}
use Rattle.tp_refinement.proofs.every_run_keeps_the_sentences_of_the_page.Goals as goal

pub returns : goal.returns
returns c = λ es t. keeps_sentences (tree_in (run es) t) (runs_on_the_page es t)
