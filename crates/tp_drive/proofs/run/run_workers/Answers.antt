use Rattle.std.proofs.Common.{map, subst, sym, ap, ◌∙◌, arith}
use Rattle.tp_shared_log.specs.Shares.{Noted}
use Rattle.tp_drive.specs.Endings.{IsLeastStop}
use Rattle.tp_drive.proofs.Slips.{slips_of, slips_told}
use Rattle.tp_drive.proofs.run.run_workers.Goals as goal

-- the slips are those of the lanes, and tell their receipts
pub returns-clause-of : goal.returns-clause-of
returns-clause-of g c = rw c.close_lanes.ensures.slips (slips_of c.args.log.now c.open_and_run-ran.new.lanes.items c.open_and_run-ran.ensures.of)

pub returns-clause-slips : goal.returns-clause-slips
returns-clause-slips g c = ap (map (λ (n : Noted). n.receipts)) c.close_lanes.ensures.slips ∙ slips_told c.open_and_run-ran.new.lanes.items ∙ sym c.close_lanes.ensures.receipts

-- where all lanes were opened, the stakes are theirs
pub returns-clause-stopped : goal.returns-clause-stopped
returns-clause-stopped g c = λ event is.
    let ran = c.open_and_run-ran in
    let closed = c.close_lanes.ensures in
    let all = c.in_ok-ran.ensures in
    let less = all.stopped event (subst (λ l. IsLeastStop l event) closed.stops is) in
    omega (arith, less, all.all, closed.stakes, ran.ensures.amounts.1, ran.ensures.parts.1)
