use Rattle.std.proofs.Common.{◌≡◌, ◌≤◌, ℕ, Option, None}
use Rattle.tp_outside.specs.Story.{Story}
use Rattle.tp_model.specs.NodeRun.{Opening}
use Rattle.tp_serve.specs.Progress.{RestsOn}
use Rattle.tp_tx.specs.Transcript.{first_events}
use Rattle.tp_tx.specs.Progress.{IsRunning, HasRun}
use Rattle.tp_tx.proofs.serving.answer_frames.Given as goal

abbrev pub invariant-frames : goal.invariant-frames
invariant-frames g l = record {
  run : (o : Opening) (begun : Option Story) (faults : ℕ) → IsRunning g.J.Keeper.standing o first_events None faults l.fn.face → RestsOn o first_events begun (g.J.Keeper.standing l.fn.face.site.keeper).lasting
      → HasRun g.J.Keeper.standing o begun faults l.intake l.declares (g.S.Source.left l.fn.source) (g.S.Source.left l.source) (g.K.Sink.written l.fn.sink) (g.K.Sink.written l.sink) l.waiting l.face;
  unstopped : l.intake.stop ≡ None;
  few : l.declares ≤ 256;
  read : g.S.Source.fault_count l.fn.source ≤ g.S.Source.fault_count l.source;
  kept : g.K.Sink.fault_count l.fn.sink ≤ g.K.Sink.fault_count l.sink;
}
