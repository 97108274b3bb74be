use Rattle.std.proofs.Common.{◌≡◌, ◌++◌, take}
use Rattle.tp_model.specs.NodeTranscript.{outputs_bytes}
use Rattle.tp_serve.proofs.outgoing.put_outputs.Given as goal

abbrev pub invariant-loop-output : goal.invariant-loop-output
invariant-loop-output l = l.out ≡ l.initial.out ++ outputs_bytes (take l.output-index l.outputs)
