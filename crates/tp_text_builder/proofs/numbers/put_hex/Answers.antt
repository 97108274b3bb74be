use Rattle.tp_text_builder.proofs.Added.{adds_then, adds_same, adds_nothing}
use Rattle.tp_text_builder.proofs.Digits.{hex_next, hex_over}
use Rattle.tp_text_builder.proofs.numbers.put_hex.Goals as goal

pub loop-octet-preserved : goal.loop-octet-preserved
loop-octet-preserved c = λ end rest.
    c.loop-octet.invariant end (adds_same (adds_then c.octet.ensures rest) (hex_next c.args.octets.now c.loop-octet.octet-index c.loop-octet-test.true))

pub returns : goal.returns
returns c = c.loop-octet.invariant c.loop-octet.text (adds_same (adds_nothing c.loop-octet.text) (hex_over c.args.octets.now c.loop-octet.octet-index c.loop-octet-test.false))
