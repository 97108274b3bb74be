use Rattle.std.proofs.Common.{ℕ, ◌∷◌, ◌++◌, ap}
use Rattle.tp_model.specs.Words.{decimal}
use Rattle.tp_text_builder.proofs.Added.{adds_then, adds_same}
use Rattle.tp_text_builder.proofs.text.Text.dotted.Goals as goal

pub returns : goal.returns
returns c = adds_then (adds_same c.two_dotted.ensures (ap (λ (n : ℕ). (46 ∷ decimal c.args.mark.now.boot) ++ (46 ∷ decimal n)) c.from.ensures)) c.led.ensures
