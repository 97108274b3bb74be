use Rattle.std.proofs.Common.{◌≡◌, ◌++◌, drop}
use Rattle.tp_model.specs.Recovery.{without_owed}
use Rattle.tp_recover.proofs.kept.without_owed.Given as goal

-- those before stay
abbrev pub invariant-loop-i : goal.invariant-loop-i
invariant-loop-i l = without_owed l.children l.branch ≡ l.rest ++ without_owed (drop l.i l.children) l.branch
