use Rattle.std.proofs.Common.{arith, rules}
use Rattle.std.proofs.lemmas.List.Elements.{All-push}
use Rattle.tp_drive.specs.Crews.{IsOf}
use Rattle.tp_drive.proofs.Fresh.{fresh_push}
use Rattle.tp_drive.proofs.crew.open_lanes.Goals as goal

-- one lane more is fresh, over one part less of each ledger
pub loop-own-preserved : goal.loop-own-preserved
loop-own-preserved g c =
    let before = c.loop-own.invariant in
    let opened = c.open_lane.ensures in
    record {
      fresh = rw c.push_reserved.ensures.items (fresh_push g.L.Stood.stood g.L.Stood.wide g.L.Begun.opening c.args.count c.loop-own.lanes.items c.in_ok-lane.lane c.loop-own.own (search rules) before.fresh c.in_ok-lane.ensures.fresh);
      of = rw c.push_reserved.ensures.items (All-push (IsOf c.args.log.now) c.loop-own.lanes.items c.in_ok-lane.lane before.of c.in_ok-lane.ensures.of);
      counted = omega arith;
      room = omega arith;
      parts = (omega (arith, c.in_ok-lane.ensures.ok), omega (arith, c.in_ok-lane.ensures.ok));
      amounts = opened.amounts;
    }
