use Rattle.std.proofs.Common.{arith}
use Rattle.tp_names.proofs.Numbers.{bytes_from}
use Rattle.tp_records.specs.BodyReading.{body_grammar}
use Rattle.tp_records.specs.WholeScanning.{scan_body}
use Rattle.tp_records.proofs.Whole.{body_scan}
use Rattle.tp_records.proofs.Spelled.{body_written}
use Rattle.tp_records.proofs.Decoding.{refused_within, refused_bad, found_begins, found_left}
use Rattle.tp_records.proofs.coding.decode_body.Goals as goal

pub overflow_sub-result : goal.overflow_sub-result
overflow_sub-result c = found_left body_grammar scan_body body_scan c.args.bytes.now c.new-from.result c.in-Ok.v c.read_body.new.from c.left-left.result c.new-from.ensures c.in-Ok.ensures c.left-left.ensures

pub overflow_sub-result-in-Err-Bad : goal.overflow_sub-result-in-Err-Bad
overflow_sub-result-in-Err-Bad c = rw c.in-Err-Bad.field-0-is (refused_within body_grammar scan_body body_scan c.args.bytes.now c.new-from.result c.in-Err-Bad.field-0 c.read_body.new.from _ (bytes_from _ (λ i. omega (arith, c.type_inv.bytes i))) c.new-from.ensures c.in-Err-Bad.ensures c.in-Err-Bad.field-0-is)

pub returns-in-Ok-clause-ok : goal.returns-in-Ok-clause-ok
returns-in-Ok-clause-ok c = found_begins body_grammar scan_body body_scan body_written c.args.bytes.now c.new-from.result c.in-Ok.v c.read_body.new.from c.left-left.result (bytes_from _ (λ i. omega (arith, c.type_inv.bytes i))) c.new-from.ensures c.in-Ok.ensures c.left-left.ensures

pub returns-in-Err-Bad-clause-bad : goal.returns-in-Err-Bad-clause-bad
returns-in-Err-Bad-clause-bad c = rw c.in-Err-Bad.field-0-is (refused_bad body_grammar scan_body body_scan body_written c.args.bytes.now c.new-from.result c.in-Err-Bad.field-0 c.read_body.new.from _ (bytes_from _ (λ i. omega (arith, c.type_inv.bytes i))) c.new-from.ensures c.in-Err-Bad.ensures c.in-Err-Bad.field-0-is)
