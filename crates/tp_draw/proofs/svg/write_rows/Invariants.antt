use Rattle.std.proofs.Common.{◌≡◌, ◌++◌, drop}
use Rattle.tp_draw.specs.Bands.{first_tracks}
use Rattle.tp_draw.specs.Svg.{rows_text}
use Rattle.tp_draw.proofs.svg.write_rows.Given as goal

abbrev pub invariant-loop-row : goal.invariant-loop-row
invariant-loop-row l = l.out ++ rows_text l.view l.plan l.tracks.items l.row (drop l.row l.lines) ≡ l.fn.out ++ rows_text l.view l.plan (first_tracks l.plan) 0 l.lines
