use Rattle.std.proofs.Common.{ℕ, List, ◌∷◌, ap, sym, arith}
use Rattle.tp_text_builder.proofs.Added.{adds_same}
use Rattle.tp_text_builder.proofs.Decimals.{decimal_one}
use Rattle.tp_text_builder.proofs.text.Text.led.Goals as goal

pub returns-then-n-lt10 : goal.returns-then-n-lt10
returns-then-n-lt10 c = adds_same c.put.ensures (ap (λ (t : List ℕ). c.args.byte ∷ t) (sym (decimal_one c.args.n (omega arith))))
