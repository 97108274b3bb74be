use Rattle.std.proofs.Common.{◌≡◌, List, Some, IfErr, subst}
use Rattle.tp_outside.specs.Story.{Story, seen}
use Rattle.tp_records.specs.declared.body.Event.{Event as Given}
use Rattle.tp_model.specs.NodeTranscript.{written_of}
use Rattle.tp_log_tools.specs.Readings.{IsFile}
use Rattle.tp_drive_tool.specs.Driving.{IsDriveCause, NotDriven}
use Rattle.tp_drive_tool.proofs.Does.{all_ending, part_done}
use Rattle.tp_drive_tool.proofs.running.run_asked.Goals as goal

pub returns-in-Ok-driven-clause-ending : goal.returns-in-Ok-driven-clause-ending
returns-in-Ok-driven-clause-ending g c =
    let wrote = c.write_outputs.ensures in
    all_ending (written_of c.in-Ok-driven.outs) (g.K.Sink.written c.args.sink.now) (g.K.Sink.written c.write_outputs.new.sink) 0
    (g.S.Source.fault_count c.args.source.now) (g.S.Source.fault_count c.read_events.new.source)
    (g.K.Sink.fault_count c.args.sink.now) (g.K.Sink.fault_count c.write_outputs.new.sink)
    (g.D.Disk.fault_count c.args.disk) (g.D.Disk.fault_count c.drive_on-disk.result.0)
    c.write_outputs.result wrote.writes (wrote.cause 0)

pub returns-clause-does : goal.returns-clause-does
returns-clause-does g c =
    let told = g.D.Disk.told in
    let asked = c.args.asked in
    let status = c.in-Err-driven.status in
    let left = c.drive_on-disk.result.0 in
    let cause = subst (λ r. IfErr r (IsDriveCause (g.D.Disk.fault_count c.args.disk) (g.D.Disk.fault_count left))) c.in-Err-driven.is c.drive_on-disk.ensures.cause in
    let stops = subst (λ r. IfErr r (λ x. (s : Story) → told c.args.disk ≡ Some s → IsFile (seen s) → NotDriven asked.name asked.workers c.as_slice.result.now s (told left) x)) c.in-Err-driven.is c.drive_on-disk.ensures.stops in
    part_done asked (record {
      told = told c.args.disk;
      story = told left;
      left = g.S.Source.left c.args.source.now;
      unread = g.S.Source.left c.read_events.new.source;
      written = g.K.Sink.written c.args.sink.now;
      output = g.K.Sink.written c.args.sink.now;
    }) (left ≡ c.args.disk) c.in-Ok.events.items c.in-Ok.ensures.reads _ _ status cause
    (λ s is file. subst (λ (events : List Given). NotDriven asked.name asked.workers events s (told left) status) c.as_slice.ensures.value (stops s is file))
