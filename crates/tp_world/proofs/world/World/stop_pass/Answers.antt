use Rattle.std.proofs.Common.{[], ◌∷◌, refl, ap, sym, ◌∙◌, None, Some}
use Rattle.tp_laws.specs.SiteLogs.{DisksTell, DisksStart}
use Rattle.tp_laws.proofs.EveryLog.{disks_tell}
use Rattle.tp_laws.proofs.LineRuns.{of_run}
use Rattle.tp_laws.proofs.NextStart.{disks_start}
use Rattle.tp_model.specs.declared.out_line.OutLine.{OutLine}
use Rattle.tp_model.specs.declared.out_line.RecordFate.{RecordFate}
use Rattle.tp_model.specs.Happenings.{Mark, happens, after_stop}
use Rattle.tp_network.specs.Frames.{handed_over}
use Rattle.tp_world.specs.declared.world.World.{World as CodeWorld}
use Rattle.tp_world.proofs.Drained.{between_stood, stands_marked, stands_unmarked}
use Rattle.tp_world.proofs.StopDeeds.{marked_at, pass_gives, no_pass_gives, stops_marked}
use Rattle.tp_world.proofs.StopTurns.{gives_behind}
use Rattle.tp_world.proofs.world.World.stop_pass.Goals as goal

pub returns-in-Some : goal.returns-in-Some
returns-in-Some c = λ w s z stops stand.
    let v = c.args.self.now in
    let new : CodeWorld = record v { frames = c.hand_between.new.self } in
    let k = c.in-Some.frame in
    let h = stops.mirrors in
    let marked = c.hand_between.ensures.frames ∙ ap (handed_over v.frames) c.in-Some.is in
    let oldest = between_stood w v c.args.from c.args.to (Some k) h (sym c.in-Some.is ∙ c.hand_between.ensures.number) in
    pass_gives w k s z c.args.from c.args.to c.args.stop.now.call c.args.stop.now.fill c.stop_delivery.result c.args.lines.now c.stop_delivery.new.lines c.stop_delivery.new.self stops.site oldest
    (c.stop_delivery.ensures (happens w (Mark k)).world s z (stops_marked w s z c.args.place k v new stops (stands_marked w v new k h marked refl refl refl) refl) (marked_at w k s c.args.from c.args.to oldest stand))

pub returns-in_ok-push-in-None : goal.returns-in_ok-push-in-None
returns-in_ok-push-in-None c = λ w s z stops stand.
    let v = c.args.self.now in
    let new : CodeWorld = record v { frames = c.hand_between.new.self } in
    let h = stops.mirrors in
    let oldest = between_stood w v c.args.from c.args.to None h (sym c.in-None.is ∙ c.hand_between.ensures.number) in
    let mirrors = stands_unmarked w v new h (c.hand_between.ensures.frames ∙ ap (handed_over v.frames) c.in-None.is) refl refl refl in
    no_pass_gives w s c.args.from c.args.to c.args.stop.now.call c.args.stop.now.fill c.stop_with_none.result c.args.lines.now c.stop_with_none.new.lines c.stop_with_none.new.self oldest
    (gives_behind (OutLine.Nothing ∷ []) (after_stop w s RecordFate.None) c.stop_with_none.result c.args.lines.now c.push.new.self c.stop_with_none.new.lines c.stop_with_none.new.self (c.in_ok-push-in-None.ensures {u = tt}).ok
    (c.stop_with_none.ensures w s (of_run DisksTell disks_tell w stops.run) (of_run DisksStart disks_start w stops.run) stops.at mirrors))
