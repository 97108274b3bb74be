use Rattle.tp_words.proofs.Reading.{plain_said}
use Rattle.tp_words.proofs.laws.plain_words_are_taken.Goals as goal

pub returns : goal.returns
returns c = plain_said
