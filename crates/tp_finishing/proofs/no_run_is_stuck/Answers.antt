use Rattle.tp_finishing.proofs.Finish.{no_run_is_stuck as proved}
use Rattle.tp_finishing.proofs.no_run_is_stuck.Goals as goal

pub returns : goal.returns
returns c = proved
