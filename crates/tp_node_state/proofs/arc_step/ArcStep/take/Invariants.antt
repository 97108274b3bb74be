use Rattle.std.proofs.Common.{◌≡◌, ◌++◌, take, drop}
use Rattle.tp_node_state.specs.ArcStep.{stepped_ties}
use Rattle.tp_node_state.proofs.arc_step.ArcStep.take.Given as goal

-- those before are done, and those that are left are as they were
abbrev pub invariant-loop-tie : goal.invariant-loop-tie
invariant-loop-tie l = stepped_ties l.self l.branch l.fn.ties ≡ take l.tie-index l.ties ++ stepped_ties l.self l.branch (drop l.tie-index l.ties)
