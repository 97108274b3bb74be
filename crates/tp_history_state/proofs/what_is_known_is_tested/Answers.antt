use Rattle.tp_history_state.proofs.whole.Testing.{tests_from_known}
use Rattle.tp_history_state.proofs.whole.Tested.{known_from_tests}
use Rattle.tp_history_state.proofs.what_is_known_is_tested.Goals as goal

pub returns : goal.returns
returns c = record { known = tests_from_known; tested = known_from_tests }
