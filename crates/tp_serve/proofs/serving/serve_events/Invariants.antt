use Rattle.std.proofs.Common.{◌≡◌, ◌≤◌, ℕ, Option, None, []}
use Rattle.tp_outside.specs.Story.{Story}
use Rattle.tp_model.specs.NodeRun.{Opening}
use Rattle.tp_serve.specs.Progress.{IsServing, RestsOn, HasAnswered, first_place}
use Rattle.tp_serve.proofs.serving.serve_events.Given as goal

abbrev pub invariant-events : goal.invariant-events
invariant-events g l = record {
  answered : (o : Opening) (begun : Option Story) (faults : ℕ) → IsServing g.J.Keeper.standing o [] None faults l.fn.site → RestsOn o [] begun (g.J.Keeper.standing l.fn.site.keeper).lasting
      → HasAnswered g.J.Keeper.standing o begun faults first_place l.intake (g.S.Source.left l.fn.source) (g.S.Source.left l.source) (g.K.Sink.written l.fn.sink) (g.K.Sink.written l.sink) l.waiting l.site;
  unstopped : l.intake.place.stop ≡ None;
  read : g.S.Source.fault_count l.fn.source ≤ g.S.Source.fault_count l.source;
  kept : g.K.Sink.fault_count l.fn.sink ≤ g.K.Sink.fault_count l.sink;
}
