use Rattle.std.proofs.Common.{ℕ, List, ◌∷◌, ap, arith}
use Rattle.tp_text_builder.proofs.Added.{adds_then, adds_same}
use Rattle.tp_text_builder.proofs.Decimals.{two_found, three_found, four_found, more_found}
use Rattle.tp_text_builder.proofs.numbers.+put_led.Goals as goal

pub returns-then-n-lt100 : goal.returns-then-n-lt100
returns-then-n-lt100 t c = adds_same c.put.ensures (ap (λ (w : List ℕ). c.args.byte ∷ w) (two_found c.args.n c.requires (omega arith) c.pair-tens.result c.pair-tens.ensures))

pub returns-then-n-lt1000 : goal.returns-then-n-lt1000
returns-then-n-lt1000 t c =
    adds_same c.put-then-n-lt1000.ensures (ap (λ (w : List ℕ). c.args.byte ∷ w) (three_found c.args.n (omega arith) (omega arith) c.pair-tens.result c.pair-tens.ensures))

pub returns-then-n-lt10000 : goal.returns-then-n-lt10000
returns-then-n-lt10000 t c =
    adds_same c.put-then-n-lt10000.ensures
    (ap (λ (w : List ℕ). c.args.byte ∷ w) (four_found c.args.n (omega arith) (omega arith) c.pair-thousands.result c.pair-tens.result c.pair-thousands.ensures c.pair-tens.ensures))

pub returns-else-n-lt10000 : goal.returns-else-n-lt10000
returns-else-n-lt10000 t c =
    adds_same (adds_then c.put_led.ensures c.put-else-n-lt10000.ensures) (ap (λ (w : List ℕ). c.args.byte ∷ w) (more_found c.args.n (omega arith) (omega arith) c.pair-tens.result c.pair-tens.ensures))
