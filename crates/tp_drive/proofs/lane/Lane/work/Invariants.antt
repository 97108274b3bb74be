use Rattle.std.proofs.Common.{◌≡◌, None, take}
use Rattle.tp_model.specs.Lanes.{lane}
use Rattle.tp_site.specs.Resume.{is_in_lane}
use Rattle.tp_drive.specs.Works.{Did, HasOnePart}
use Rattle.tp_drive.proofs.lane.Lane.work.Given as goal

abbrev pub invariant-loop-i : goal.invariant-loop-i
invariant-loop-i g l = record {
  did : Did g.L.Stood.stood g.L.Stood.wide g.L.Begun.opening (is_in_lane l.own l.lanes) l.self (lane (take l.i l.events) l.own l.lanes);
  going : l.self.stop ≡ None;
  unshut : l.self.site.shut ≡ None;
  one_part : HasOnePart l.self;
  of : l.self.site.keeper.of ≡ l.initial.self.site.keeper.of;
}
