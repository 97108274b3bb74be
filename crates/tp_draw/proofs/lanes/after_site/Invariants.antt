use Rattle.std.proofs.Common.{◌≡◌, ◌≤◌, length, drop}
use Rattle.tp_draw.specs.Lanes.{after_from, after_site}
use Rattle.tp_draw.proofs.lanes.after_site.Given as goal

abbrev pub invariant-loop-i : goal.invariant-loop-i
invariant-loop-i l = record {
  value : after_from l.site l.at l.i (drop l.i l.lanes) ≡ after_site l.lanes l.site;
  within : l.at ≤ length l.lanes;
}
