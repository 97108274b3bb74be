use Rattle.std.proofs.Common.{◌≡◌, ◌-◌, ◌+◌, suc, arith, ap, sym, ◌∙◌}
use Rattle.tp_names.specs.Scanning.{scan_many, scan_child}
use Rattle.tp_logrec.specs.RecordScanning.{behind}
use Rattle.tp_logrec.proofs.Scans.{many_more}
use Rattle.tp_logrec.proofs.decode.so_many_children.Goals as goal

pub loop-round-preserved : goal.loop-round-preserved
loop-round-preserved c =
    let k = c.args.count - (c.loop-round._round + 1) in
    let count : c.args.count - c.loop-round._round ≡ suc k = omega arith in
    let more = many_more c.loop-round.list k c.loop-round.cursor c.in_ok-child.child c.child.new.self c.in_ok-child.ensures in
    ap (λ l. behind l (scan_many scan_child k c.child.new.self)) c.in_ok-push.ensures.ok ∙ sym more
    ∙ ap (λ n. behind c.loop-round.list (scan_many scan_child n c.loop-round.cursor)) (sym count) ∙ c.loop-round.invariant
