use Rattle.tp_finishing.proofs.Finish.{every_run_ends, cuts_end}
use Rattle.tp_finishing.proofs.every_run_ends.Goals as goal

pub returns : goal.returns
returns c = record { stops = every_run_ends; cuts = cuts_end }
