use Rattle.std.proofs.Common.{sym, arith}
use Rattle.tp_text_builder.proofs.Added.{adds_then, adds_same}
use Rattle.tp_text_builder.proofs.Decimals.{decimal_one, decimal_more}
use Rattle.tp_text_builder.proofs.numbers.+put_number.Goals as goal

pub returns-then-n-lt10 : goal.returns-then-n-lt10
returns-then-n-lt10 t c = adds_same c.byte.ensures (sym (decimal_one c.args.n (omega arith)))

pub returns-else-n-lt10 : goal.returns-else-n-lt10
returns-else-n-lt10 t c = adds_same (adds_then c.put_number.ensures c.byte-else-n-lt10.ensures) (sym (decimal_more c.args.n (omega arith) (omega arith)))
