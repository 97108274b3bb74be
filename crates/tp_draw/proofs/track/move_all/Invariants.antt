use Rattle.std.proofs.Common.{◌≡◌, ◌++◌, map, take, drop}
use Rattle.tp_draw.specs.Bands.{moved}
use Rattle.tp_draw.proofs.track.move_all.Given as goal

abbrev pub invariant-loop-track : goal.invariant-loop-track
invariant-loop-track l = map (moved l.news) l.fn.tracks ≡ take l.track-index l.tracks ++ map (moved l.news) (drop l.track-index l.tracks)
