use Rattle.tp_histories.proofs.known.KnownPlain.{declared_law, superior_law, boot_law}
use Rattle.tp_runs.proofs.KnownDrawn.{drawn_agrees_law}
use Rattle.tp_runs.proofs.KnownForgot.{known_agrees_law, kept_agrees_law}
use Rattle.tp_history_state.proofs.whole.Quiet.{version_law}
use Rattle.tp_history_state.proofs.whole.Whole.{node_law}
use Rattle.tp_history_state.proofs.a_node_is_known.Goals as goal

pub returns : goal.returns
returns c = record { declared = declared_law; superior = superior_law; boot = boot_law; drawn = drawn_agrees_law; log = known_agrees_law; kept = kept_agrees_law; all = node_law; version = version_law }
