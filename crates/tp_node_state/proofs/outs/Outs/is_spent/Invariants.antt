use Rattle.std.proofs.Common.{◌≡◌, drop, map}
use Rattle.tp_model.specs.Events.{some_past_numbers}
use Rattle.tp_node_state.specs.Outs.{out_of}
use Rattle.tp_node_state.proofs.outs.Outs.is_spent.Given as goal

-- none of those before has one
abbrev pub invariant-loop-out : goal.invariant-loop-out
invariant-loop-out l = some_past_numbers (map out_of l.out-items) ≡ some_past_numbers (map out_of (drop l.out-index l.out-items))
