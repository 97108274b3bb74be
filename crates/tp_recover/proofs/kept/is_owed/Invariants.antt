use Rattle.std.proofs.Common.{◌≡◌, drop}
use Rattle.tp_recover.specs.Kept.{is_owed}
use Rattle.tp_recover.proofs.kept.is_owed.Given as goal

-- none of those before is it
abbrev pub invariant-loop-child : goal.invariant-loop-child
invariant-loop-child l = is_owed l.children l.branch ≡ is_owed (drop l.child-index l.children) l.branch
