use Rattle.std.proofs.Common.{◌≡◌, drop}
use Rattle.tp_tree.specs.Tie.{find_tie}
use Rattle.tp_tree.proofs.invocation.find.Given as goal

-- none of those before is with the peer
abbrev pub invariant-loop-tie : goal.invariant-loop-tie
invariant-loop-tie l = find_tie l.ties l.peer ≡ find_tie (drop l.tie-index l.ties) l.peer
