use Rattle.tp_history_state.proofs.prepares.Closed.{reached_law}
use Rattle.tp_history_state.proofs.prepares.Proper.{proper_law}
use Rattle.tp_history_state.proofs.awaited_branches_are_reached.Goals as goal

pub returns : goal.returns
returns c = record { live = λ o up h p legal. reached_law o up h p legal; told = λ o up h c legal is. proper_law o up h legal c is }
