use Rattle.tp_closing.proofs.EveryRun.{closes_every_run}
use Rattle.tp_closing.proofs.closing_lines_are_those_of_every_run.Goals as goal

pub returns : goal.returns
returns c = closes_every_run
