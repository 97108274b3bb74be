use Rattle.tp_steps.proofs.upward.Rising.{rising_turn}
use Rattle.tp_histories.proofs.upward.Risen.{risen_event}
use Rattle.tp_histories.proofs.upward.SpeaksUp.{speaks_law}
use Rattle.tp_histories.proofs.words_upward.Goals as goal

pub returns : goal.returns
returns c = record { turn = rising_turn; node = risen_event; history = speaks_law }
