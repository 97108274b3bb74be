use Rattle.tp_steps.proofs.branches.Undone.{prompt_event}
use Rattle.tp_histories.proofs.undone.Prompt.{prompt_law, prompt_run}
use Rattle.tp_histories.proofs.nothing_is_left_undone.Goals as goal

pub returns : goal.returns
returns c = record { turn = prompt_event; history = prompt_law; run = prompt_run }
