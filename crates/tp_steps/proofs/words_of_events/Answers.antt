use Rattle.tp_steps.proofs.words.FairTurns.{fair_turn}
use Rattle.tp_steps.proofs.words.Heard.{heard_event}
use Rattle.tp_steps.proofs.words_of_events.Goals as goal

pub returns : goal.returns
returns c = record { turn = fair_turn; node = heard_event }
