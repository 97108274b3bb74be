use Rattle.std.proofs.Common.{◌≡◌, ◌≢◌, ◌%◌, take, sym, ap, ◌∙◌, subst, arith}
use Rattle.tp_model.specs.NodeRun.{node_of}
use Rattle.tp_model.specs.Lanes.{lane}
use Rattle.tp_site.specs.Resume.{is_in_lane}
use Rattle.tp_drive.specs.Works.{Did, HasOnePart, IsBackedBy, Working}
use Rattle.tp_drive.proofs.Lanes.{mine_of, meets_own, meets_other, read_same}
use Rattle.tp_drive.proofs.lane.Lane.work.Goals as goal

-- an event of another lane is passed over
pub loop-i-preserved-then-lane_of-own : goal.loop-i-preserved-then-lane_of-own
loop-i-preserved-then-lane_of-own g c =
    let before = c.loop-i.invariant in
    let events = c.args.events.now in
    let e = c.index-events-i.result in
    let other : node_of e % c.args.lanes ≢ c.args.own = λ h. c.if-lane_of-own.true (c.lane_of.ensures ∙ h) in
    record {
      did = subst (Did g.L.Stood.stood g.L.Stood.wide g.L.Begun.opening (is_in_lane c.args.own c.args.lanes) c.loop-i.self) (sym (meets_other c.args.own c.args.lanes events c.loop-i.i e c.loop-i-test.true c.index-events-i.is other)) before.did;
      going = before.going;
      unshut = before.unshut;
      one_part = before.one_part;
      of = before.of;
    }

-- an event of its own is done
pub loop-i-preserved : goal.loop-i-preserved
loop-i-preserved g c =
    let before = c.loop-i.invariant in
    let events = c.args.events.now in
    let own = c.args.own in
    let lanes = c.args.lanes in
    let i = c.loop-i.i in
    let e = c.index-events-i-in-loop-i.result in
    let same = read_same events i e c.index-events-i.result c.loop-i-test.true c.index-events-i-in-loop-i.is c.index-events-i.is in
    let here : node_of e % lanes ≡ own = ap (λ x. node_of x % lanes) same ∙ sym c.lane_of.ensures ∙ c.if-lane_of-own.false in
    let done = c.in_default.ensures.done (is_in_lane own lanes) (lane (take i events) own lanes) (mine_of own lanes e here) before.did in
    record {
      did = subst (Did g.L.Stood.stood g.L.Stood.wide g.L.Begun.opening (is_in_lane own lanes) c.give.new.self) (sym (meets_own own lanes events i e c.loop-i-test.true c.index-events-i-in-loop-i.is here)) done;
      going = c.in_default.ensures.stop ∙ before.going;
      unshut = c.in_default.ensures.open;
      one_part = c.in_default.ensures.parts before.one_part;
      of = c.in_default.ensures.of ∙ before.of;
    }

-- it stopped there, and has done its events before
pub returns-in-Err-clause-worked : goal.returns-in-Err-clause-worked
returns-in-Err-clause-worked g c =
    let before = c.loop-i.invariant in
    let events = c.args.events.now in
    let own = c.args.own in
    let lanes = c.args.lanes in
    let i = c.loop-i.i in
    let e = c.index-events-i-in-loop-i.result in
    let same = read_same events i e c.index-events-i.result c.loop-i-test.true c.index-events-i-in-loop-i.is c.index-events-i.is in
    let here : node_of e % lanes ≡ own = ap (λ x. node_of x % lanes) same ∙ sym c.lane_of.ensures ∙ c.if-lane_of-own.false in
    let gs = lane (take i events) own lanes in
    let did = subst (λ (w : Working). Did g.L.Stood.stood g.L.Stood.wide g.L.Begun.opening (is_in_lane own lanes) w gs) (sym c.self.view_is) (c.in-Err.ensures.stopped (is_in_lane own lanes) gs (mine_of own lanes e here) before.did) in
    let one = subst HasOnePart (sym c.self.view_is) (c.in-Err.ensures.parts before.one_part) in
    record {
      met = i;
      within = omega (arith, c.loop-i-test.true);
      ends = omega arith;
      did = record { at = did.at; answers = did.answers };
      backed = subst (λ (w : Working). IsBackedBy c.in-Err.cause w.site.keeper) (sym c.self.view_is) c.in-Err.ensures.backed;
      one_part = record { part = one.part; stake = one.stake };
    }
