use Rattle.std.proofs.Common.{◌≡◌, ◌+◌, ◌≤◌, map, length, vec_len, vec_capacity}
use Rattle.std.specs.List.{All, sum_by}
use Rattle.tp_drive.specs.Crews.{outs_of, receipts_of, slip_of, stop_of, forced_by, stake_left}
use Rattle.tp_drive.specs.Works.{HasOnePart}
use Rattle.tp_drive.proofs.crew.close_lanes.Given as goal

abbrev pub invariant-loop-lane : goal.invariant-loop-lane
invariant-loop-lane g l = record {
  one_part : All HasOnePart l.lane-iterator.rest.items;
  room : (vec_len l.fn.lanes ≤ vec_capacity l.left.outs) × (vec_len l.fn.lanes ≤ vec_capacity l.left.queues) × (vec_len l.fn.lanes ≤ vec_capacity l.left.stops) × (vec_len l.fn.lanes ≤ vec_capacity l.slips);
  lengths : (vec_len l.left.outs ≡ length l.yielded) × (vec_len l.left.queues ≡ length l.yielded) × (vec_len l.left.stops ≡ length l.yielded) × (vec_len l.slips ≡ length l.yielded);
  outs : map (λ o. o.items) l.left.outs.items ≡ map outs_of l.yielded;
  receipts : l.left.queues.items ≡ map receipts_of l.yielded;
  stops : l.left.stops.items ≡ map stop_of l.yielded;
  slips : l.slips.items ≡ map slip_of l.yielded;
  parts : (l.part.parts ≡ l.initial.part.parts + length l.yielded) × (l.stake.parts ≡ l.initial.stake.parts + length l.yielded);
  forced : l.part.amount ≡ l.initial.part.amount + sum_by forced_by l.yielded;
  stakes : l.stake.amount ≡ l.initial.stake.amount + sum_by stake_left l.yielded;
}
