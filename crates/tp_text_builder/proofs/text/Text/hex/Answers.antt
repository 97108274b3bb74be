use Rattle.std.proofs.Common.{ap}
use Rattle.tp_model.specs.Words.{hex}
use Rattle.tp_text_builder.proofs.Added.{adds_same}
use Rattle.tp_text_builder.proofs.text.Text.hex.Goals as goal

pub returns : goal.returns
returns c = adds_same c.put_hex.ensures (ap hex c.as_slice.ensures)
