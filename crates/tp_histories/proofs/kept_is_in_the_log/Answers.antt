use Rattle.tp_histories.proofs.log.KeptLog.{restart_kept, restart_boot}
use Rattle.tp_histories.proofs.kept_is_in_the_log.Goals as goal

pub returns : goal.returns
returns c = record {
  kept = λ o up h legal. (restart_kept o up h legal).0;
  boot = restart_boot;
  version = λ o up h legal. (restart_kept o up h legal).1;
}
