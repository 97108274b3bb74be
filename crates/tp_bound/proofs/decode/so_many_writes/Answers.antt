use Rattle.std.proofs.Common.{◌≡◌, ◌-◌, ◌+◌, suc, arith, ap, sym, ◌∙◌}
use Rattle.tp_names.specs.Scanning.{scan_many}
use Rattle.tp_bound.specs.BodyScanning.{scan_write, after}
use Rattle.tp_bound.proofs.Scans.{many_more}
use Rattle.tp_bound.proofs.decode.so_many_writes.Goals as goal

pub loop-round-preserved : goal.loop-round-preserved
loop-round-preserved c =
    let k = c.args.count - (c.loop-round._round + 1) in
    let count : c.args.count - c.loop-round._round ≡ suc k = omega arith in
    let more = many_more c.loop-round.list k c.loop-round.cursor c.in_ok-write.write c.write.new.cursor c.in_ok-write.ensures in
    ap (λ l. after l (scan_many scan_write k c.write.new.cursor)) c.in_ok-push.ensures.ok ∙ sym more
    ∙ ap (λ n. after c.loop-round.list (scan_many scan_write n c.loop-round.cursor)) (sym count) ∙ c.loop-round.invariant
