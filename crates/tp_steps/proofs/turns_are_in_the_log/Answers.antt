use Rattle.tp_steps.proofs.log.ApartLog.{kept_stays}
use Rattle.tp_steps.proofs.log.Sound.{apart_turned}
use Rattle.tp_steps.proofs.log.TurnLog.{told_turn}
use Rattle.tp_steps.proofs.log.CurrentLog.{turned_in_log}
use Rattle.tp_steps.proofs.turns_are_in_the_log.Goals as goal

pub returns : goal.returns
returns c = record { turn = told_turn; node = turned_in_log; apart = apart_turned; kept = kept_stays }
