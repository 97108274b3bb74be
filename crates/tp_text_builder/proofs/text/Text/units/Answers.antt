use Rattle.tp_text_builder.proofs.Added.{adds_then, adds_nothing}
use Rattle.tp_text_builder.proofs.text.Text.units.Goals as goal

pub returns : goal.returns
returns c =
    adds_then c.put_unit.ensures
    (adds_then c.put_unit-2.ensures (adds_then c.put_unit-3.ensures (adds_then c.put_unit-4.ensures (adds_then c.put_unit-5.ensures (adds_then c.put_unit-6.ensures (adds_nothing c.put_unit-6.new.text))))))
