use Rattle.tp_steps.proofs.upward.Answering.{answering_turn}
use Rattle.tp_histories.proofs.upward.Answerable.{answers_behind}
use Rattle.tp_histories.proofs.answers_are_asked_for.Goals as goal

pub returns : goal.returns
returns c = record { turn = answering_turn; history = answers_behind }
