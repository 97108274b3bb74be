use Rattle.std.proofs.Common.{◌≡◌, ◌∙◌, arith, length}
use Rattle.tp_site.specs.Resume.{IsLaneOf}
use Rattle.tp_site.proofs.Lanes.{told_lane, all_lane}
use Rattle.tp_site.proofs.Shaped.{resumed_shaped}
use Rattle.tp_site.proofs.site.resume.lane_of.Goals as goal

pub loop-i-preserved : goal.loop-i-preserved
loop-i-preserved g c =
    let one = c.in_ok-recover.ensures {u = tt} in
    let was = c.loop-i.invariant in (
      told_lane c.args.lane c.args.lanes (g.K.Keeper.standing c.args.keeper.now).told c.loop-i.i c.rec.result.now c.loop-i.nodes c.recover.new.nodes (omega arith) c.rec.ensures one.recovered was.0,
      one.site.site ∙ was.1,
      one.site.boot ∙ was.2,
      one.site.version ∙ was.3,
    )

pub returns-clause-shaped : goal.returns-clause-shaped
returns-clause-shaped g c =
    let told = g.K.Keeper.standing c.args.keeper.now in
    let was = c.loop-i.invariant in
    let whole : c.loop-i.i ≡ length told.told = omega arith in
    let is : IsLaneOf told c.args.name c.args.boot c.args.lane c.args.lanes c.loop-i.nodes = record { site = was.1; boot = was.2; version = was.3; from = all_lane c.args.lane c.args.lanes told.told c.loop-i.i c.loop-i.nodes whole was.0 } in
    resumed_shaped told c.args.name c.args.boot c.args.lane c.args.lanes c.loop-i.nodes c.texts.ensures is
