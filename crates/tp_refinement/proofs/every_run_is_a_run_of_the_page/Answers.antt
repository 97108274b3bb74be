use Rattle.tp_refinement.proofs.Happens.{runs_refine, runs_on_the_page}
use Rattle.tp_refinement.proofs.every_run_is_a_run_of_the_page.Goals as goal

pub returns : goal.returns
returns c = record { steps = runs_refine; reached = runs_on_the_page }
