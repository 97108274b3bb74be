use Rattle.std.proofs.Common.{◌/◌, ◌%◌}
use Rattle.tp_text_builder.proofs.Added.{adds_same, adds_nothing}
use Rattle.tp_text_builder.proofs.Digits.{unit_absent}
use Rattle.tp_text_builder.proofs.numbers.put_unit.Goals as goal

pub returns-else-units-bit-eq1 : goal.returns-else-units-bit-eq1
returns-else-units-bit-eq1 c = adds_same (adds_nothing c.args.text.now) (unit_absent (c.args.units / c.args.bit % 2) c.args.letter c.if-units-bit-eq1.false)
