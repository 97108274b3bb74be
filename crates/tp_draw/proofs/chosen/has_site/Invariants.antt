use Rattle.std.proofs.Common.{◌≡◌, drop}
use Rattle.tp_draw.specs.Chosen.{has_site}
use Rattle.tp_draw.proofs.chosen.has_site.Given as goal

abbrev pub invariant-loop-lane : goal.invariant-loop-lane
invariant-loop-lane l = has_site l.nodes l.site (drop l.lane-index l.lanes) ≡ has_site l.nodes l.site l.lanes
