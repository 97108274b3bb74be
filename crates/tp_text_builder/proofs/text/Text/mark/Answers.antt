use Rattle.std.proofs.Common.{ℕ, ◌∷◌, ap}
use Rattle.tp_model.specs.Words.{decimal}
use Rattle.tp_text_builder.proofs.Added.{adds_then, adds_same}
use Rattle.tp_text_builder.proofs.text.Text.mark.Goals as goal

pub returns : goal.returns
returns c = adds_then (adds_then c.number.ensures (adds_same c.led.ensures (ap (λ (n : ℕ). 46 ∷ decimal n) c.from.ensures))) c.led-2.ensures
