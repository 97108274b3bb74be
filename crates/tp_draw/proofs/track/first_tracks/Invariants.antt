use Rattle.std.proofs.Common.{◌≡◌, ◌++◌, map, drop}
use Rattle.tp_draw.specs.Bands.{fresh}
use Rattle.tp_draw.proofs.track.first_tracks.Given as goal

abbrev pub invariant-loop-lane : goal.invariant-loop-lane
invariant-loop-lane l = l.tracks.items ++ map fresh (drop l.lane-index l.lanes) ≡ map fresh l.lanes
