use Rattle.tp_history_state.proofs.requests.Decision.{decision_agrees_law}
use Rattle.tp_history_state.proofs.decisions_are_known.Goals as goal

pub returns : goal.returns
returns c = record { decision = decision_agrees_law }
