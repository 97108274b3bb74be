use Rattle.std.proofs.Common.{◌≡◌, drop}
use Rattle.tp_draw.specs.Mermaid.{some_in_doubt}
use Rattle.tp_draw.proofs.mermaid.some_in_doubt.Given as goal

abbrev pub invariant-loop-track : goal.invariant-loop-track
invariant-loop-track l = some_in_doubt (drop l.track-index l.tracks) ≡ some_in_doubt l.tracks
