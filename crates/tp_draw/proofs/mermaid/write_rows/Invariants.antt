use Rattle.std.proofs.Common.{◌≡◌, ◌++◌, false, drop}
use Rattle.tp_draw.specs.Bands.{first_tracks}
use Rattle.tp_draw.specs.Mermaid.{rows_words}
use Rattle.tp_draw.proofs.mermaid.write_rows.Given as goal

abbrev pub invariant-loop-row : goal.invariant-loop-row
invariant-loop-row l =
    l.out ++ rows_words l.view l.plan l.tracks.items l.was l.row (drop l.row l.lines)
    ≡ l.fn.out ++ rows_words l.view l.plan (first_tracks l.plan) false 0 l.lines
