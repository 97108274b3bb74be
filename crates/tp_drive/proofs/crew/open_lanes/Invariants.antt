use Rattle.std.proofs.Common.{◌≡◌, ◌+◌, ◌≤◌, vec_len, vec_capacity}
use Rattle.std.specs.List.{All}
use Rattle.tp_drive.specs.Crews.{AreFresh, IsOf}
use Rattle.tp_drive.proofs.crew.open_lanes.Given as goal

abbrev pub invariant-loop-own : goal.invariant-loop-own
invariant-loop-own g l = record {
  fresh : AreFresh g.L.Stood.stood g.L.Stood.wide g.L.Begun.opening l.count l.lanes.items;
  of : All (IsOf l.log) l.lanes.items;
  counted : vec_len l.lanes ≡ l.own;
  room : l.count ≤ vec_capacity l.lanes;
  parts : (l.part.parts + l.own ≡ l.count) × (l.stake.parts + l.own ≡ l.count);
  amounts : (l.part.amount ≡ 0) × (l.stake.amount ≡ l.stake.parts);
}
