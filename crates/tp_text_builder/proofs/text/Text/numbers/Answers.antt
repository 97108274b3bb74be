use Rattle.std.proofs.Common.{ap}
use Rattle.tp_model.specs.OutText.{numbers_word}
use Rattle.tp_text_builder.proofs.Added.{adds_same}
use Rattle.tp_text_builder.proofs.text.Text.numbers.Goals as goal

pub returns : goal.returns
returns c = adds_same c.put_numbers.ensures (ap numbers_word c.as_slice.ensures)
