use Rattle.std.proofs.Common.{◌≡◌, drop}
use Rattle.tp_model.specs.Recovery.{find_owed}
use Rattle.tp_node_state.proofs.kept.find_owed.Given as goal

-- none of those before is it
abbrev pub invariant-loop-child : goal.invariant-loop-child
invariant-loop-child l = find_owed l.children l.branch ≡ find_owed (drop l.child-index l.children) l.branch
