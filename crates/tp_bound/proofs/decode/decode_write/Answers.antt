use Rattle.std.proofs.Common.{◌≡◌, ◌<◌, Some, length, sym, ap, ◌∙◌, arith}
use Rattle.tp_names.proofs.Numbers.{bytes_from}
use Rattle.tp_bound.specs.BodyScanning.{scan_write}
use Rattle.tp_bound.specs.Gathered.{write_in}
use Rattle.tp_bound.proofs.Scans.{write_whole, write_longer, write_none}
use Rattle.tp_bound.proofs.TakenBodies.{write_has_text}
use Rattle.tp_bound.proofs.decode.decode_write.Goals as goal

pub returns-in-Ok-clause-is : goal.returns-in-Ok-clause-is
returns-in-Ok-clause-is c =
    let rest = c.write.new.cursor in
    let none : length rest ≡ 0 = omega (arith, c.left.ensures, c.if-left-eq0.true) in
    sym (write_whole c.args.bytes.now c.in-Ok.write rest (ap scan_write (sym c.new-cursor.ensures) ∙ c.in-Ok.ensures) none)

pub returns-in-Ok-clause-text : goal.returns-in-Ok-clause-text
returns-in-Ok-clause-text c =
    let bytes = c.args.bytes.now in
    let rest = c.write.new.cursor in
    let none : length rest ≡ 0 = omega (arith, c.left.ensures, c.if-left-eq0.true) in
    let is : write_in bytes ≡ Some c.in-Ok.write = write_whole bytes c.in-Ok.write rest (ap scan_write (sym c.new-cursor.ensures) ∙ c.in-Ok.ensures) none in
    write_has_text bytes c.in-Ok.write (bytes_from bytes (λ i. omega (arith, c.type_inv.bytes i))) is

pub returns-in-Ok-2-clause-is : goal.returns-in-Ok-2-clause-is
returns-in-Ok-2-clause-is c =
    let rest = c.write.new.cursor in
    let some : 0 < length rest = omega (arith, c.left.ensures, c.if-left-eq0.false) in
    sym (write_longer c.args.bytes.now c.in-Ok-2.field-0 rest (ap scan_write (sym c.new-cursor.ensures) ∙ c.in-Ok-2.ensures) some)

pub returns-in-Bad-clause-is : goal.returns-in-Bad-clause-is
returns-in-Bad-clause-is c =
    let bytes = c.args.bytes.now in
    sym (write_none bytes c.in-Bad.field-0.left (bytes_from bytes (λ i. omega (arith, c.type_inv.bytes i))) (ap scan_write (sym c.new-cursor.ensures) ∙ (rw c.in-Bad.is at c.in-Err.ensures)))
