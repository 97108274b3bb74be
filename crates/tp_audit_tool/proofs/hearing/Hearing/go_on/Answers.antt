use Rattle.std.proofs.Common.{◌+◌, ◌≤◌, Some, List, ℕ, length, ap, refl, sym, ◌∙◌, arith}
use Rattle.tp_names.proofs.Numbers.{bytes_from}
use Rattle.tp_audit_tool.specs.declared.hearing.OpenLog.{OpenLog}
use Rattle.tp_audit_tool.proofs.Progress.{goes_on}
use Rattle.tp_audit_tool.proofs.hearing.Hearing.go_on.Goals as goal

pub returns-clause-reaches : goal.returns-clause-reaches
returns-clause-reaches c = λ p is.
    let o = c.in-Some.log in
    let room = c.if-bytes-self.false in
    let small = c.args.self.now.small in
    let within : c.args.self.now.size + length c.args.bytes.now ≤ 268435456 = omega (arith, room, small) in
    goes_on c.args.at p c.args.self.now _ o c.args.bytes.now is (sym c.take.ensures.value ∙ c.in-Some.is) refl
    (ap (λ (b : List ℕ). let l : OpenLog = record { site = o.site; bytes = b } in Some l) c.in_ok-extend_from_slice.ensures.ok)
    refl refl within (bytes_from _ (λ i. omega (arith, c.type_inv.bytes i)))
