use Rattle.std.proofs.Common.{◌≡◌, ℕ, ◌+◌, ◌-◌, min, ◌++◌, length, take, drop, arith, rules, ap, ◌∙◌, length-append, length-drop, length-take}
use Rattle.tp_outside.proofs.Lists.{copied_out}
use Rattle.tp_outside.proofs.Records.{seen_after}
use Rattle.tp_outside.proofs.mem_disk.MemDiskDisk.read.Goals as goal

pub returns-clause-bytes : goal.returns-clause-bytes
returns-clause-bytes c =
    let file = c.args.self.now.bytes.items in
    let from : c.min-from.result ≡ min c.args.at (length file) = search rules in
    let fits : c.min-n.result ≡ min (length c.args.buf.now) (length file - c.min-from.result) = search rules in
    let count : c.min-n.result ≡ min (length c.args.buf.now) (length file - c.args.at) = omega arith in
    let long : length (c.copy_from_slice.new.self ++ drop c.min-n.result c.args.buf.now) ≡ length c.args.buf.now =
    omega (arith, length-append {A = ℕ}, length-drop {A = ℕ}, length-take {A = ℕ}, c.copy_from_slice.ensures.len) in
    let got : c.copy_from_slice.new.self ≡ take (c.min-from.result + c.min-n.result - c.min-from.result) (drop c.min-from.result file) =
    c.copy_from_slice.ensures.after ∙ ap (λ l. take (c.min-from.result + c.min-n.result - c.min-from.result) (drop c.min-from.result l)) c.deref.ensures.value in
    rw (seen_after file c.args.self.now.changes) (rw long count, copied_out file c.args.buf.now _ c.args.at c.min-from.result c.min-n.result from fits got)
