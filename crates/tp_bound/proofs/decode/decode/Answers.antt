use Rattle.std.proofs.Common.{◌≡◌, ◌<◌, length, sym, ap, ◌∙◌, arith}
use Rattle.tp_names.proofs.Numbers.{bytes_from}
use Rattle.tp_bound.specs.BodyScanning.{scan_body}
use Rattle.tp_bound.proofs.Scans.{is_whole, is_longer, is_none}
use Rattle.tp_bound.proofs.decode.decode.Goals as goal

pub returns-in-Ok : goal.returns-in-Ok
returns-in-Ok c =
    let rest = c.body.new.cursor in
    let none : length rest ≡ 0 = omega (arith, c.left.ensures, c.if-left-eq0.true) in
    sym (is_whole c.args.bytes.now c.in-Ok.body rest (ap scan_body (sym c.new-cursor.ensures) ∙ c.in-Ok.ensures) none)

pub returns-in-Ok-2 : goal.returns-in-Ok-2
returns-in-Ok-2 c =
    let rest = c.body.new.cursor in
    let some : 0 < length rest = omega (arith, c.left.ensures, c.if-left-eq0.false) in
    sym (is_longer c.args.bytes.now c.in-Ok-2.field-0 rest (ap scan_body (sym c.new-cursor.ensures) ∙ c.in-Ok-2.ensures) some)

pub returns-in-Bad : goal.returns-in-Bad
returns-in-Bad c =
    let bytes = c.args.bytes.now in
    sym (is_none bytes c.in-Bad.field-0.left (bytes_from bytes (λ i. omega (arith, c.type_inv.bytes i))) (ap scan_body (sym c.new-cursor.ensures) ∙ (rw c.in-Bad.is at c.in-Err.ensures)))
