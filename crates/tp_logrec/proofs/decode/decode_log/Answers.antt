use Rattle.std.proofs.Common.{◌≤◌, length, arith, ap, sym, ◌∙◌}
use Rattle.tp_logrec.specs.RecordScanning.{scan_record}
use Rattle.tp_names.proofs.Numbers.{bytes_from}
use Rattle.tp_logrec.proofs.Decodes.{rest_is_within, record_begins, bad_is_within, record_is_bad}
use Rattle.tp_logrec.proofs.decode.decode_log.Goals as goal

pub overflow_sub-result : goal.overflow_sub-result
overflow_sub-result c =
    let bytes = c.args.bytes.now in
    let h = ap (scan_record c.args.ver) (sym c.new-cursor.ensures) ∙ c.in-Ok.ensures in
    let within : length c.record.new.cursor ≤ length bytes = rest_is_within c.args.ver bytes c.in-Ok.rec c.record.new.cursor (bytes_from bytes (λ i. omega (arith, c.type_inv.bytes i))) h in
    omega (arith, within, c.left.ensures)

pub returns-in-Ok-clause-found : goal.returns-in-Ok-clause-found
returns-in-Ok-clause-found c =
    let bytes = c.args.bytes.now in
    let h = ap (scan_record c.args.ver) (sym c.new-cursor.ensures) ∙ c.in-Ok.ensures in
    rw c.left.ensures (record_begins c.args.ver bytes c.in-Ok.rec c.record.new.cursor (bytes_from bytes (λ i. omega (arith, c.type_inv.bytes i))) h)

pub overflow_sub-result-in-Bad : goal.overflow_sub-result-in-Bad
overflow_sub-result-in-Bad c =
    let h = ap (scan_record c.args.ver) (sym c.new-cursor.ensures) ∙ (rw c.in-Bad.is at c.in-Err.ensures) in
    bad_is_within c.args.ver c.args.bytes.now c.in-Bad.bad.left (bytes_from c.args.bytes.now (λ i. omega (arith, c.type_inv.bytes i))) h

pub returns-in-Bad-clause-bad : goal.returns-in-Bad-clause-bad
returns-in-Bad-clause-bad c =
    let bytes = c.args.bytes.now in
    let h = ap (scan_record c.args.ver) (sym c.new-cursor.ensures) ∙ (rw c.in-Bad.is at c.in-Err.ensures) in
    record_is_bad c.args.ver bytes c.in-Bad.bad.left (bytes_from bytes (λ i. omega (arith, c.type_inv.bytes i))) h
