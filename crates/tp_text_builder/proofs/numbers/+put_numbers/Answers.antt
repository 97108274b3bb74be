use Rattle.std.proofs.Common.{arith}
use Rattle.tp_text_builder.proofs.Added.{adds_then, adds_same, adds_nothing}
use Rattle.tp_text_builder.proofs.Digits.{no_numbers, numbers_more}
use Rattle.tp_text_builder.proofs.numbers.+put_numbers.Goals as goal

pub returns-in-empty : goal.returns-in-empty
returns-in-empty t c = adds_same (adds_nothing c.args.text.now) (no_numbers c.args.numbers.now c.in-empty.len_below)

pub returns-in-len1-up : goal.returns-in-len1-up
returns-in-len1-up t c = adds_same (adds_then c.number-in-len1-up.ensures (adds_then c.byte.ensures c.put_numbers.ensures)) (numbers_more c.args.numbers.now c.from-in-len1-up.result (omega arith) c.from-in-len1-up.ensures)
