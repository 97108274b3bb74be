use Rattle.tp_runs.proofs.KnownAsked.{asked_agrees_law}
use Rattle.tp_history_state.proofs.requests.Prepared.{told_prepare_agrees_law}
use Rattle.tp_history_state.proofs.requests_are_known.Goals as goal

pub returns : goal.returns
returns c = record { asked = asked_agrees_law; prepare = told_prepare_agrees_law }
