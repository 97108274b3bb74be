use Rattle.std.proofs.Common.{◌≡◌, ◌++◌, drop}
use Rattle.tp_draw.specs.Svg.{tracks_text}
use Rattle.tp_draw.proofs.svg_rows.write_tracks.Given as goal

abbrev pub invariant-loop-place : goal.invariant-loop-place
invariant-loop-place l = l.out ++ tracks_text l.view l.y l.place (drop l.place l.tracks) ≡ l.fn.out ++ tracks_text l.view l.y 0 l.tracks
