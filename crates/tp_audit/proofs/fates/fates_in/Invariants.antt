use Rattle.std.proofs.Common.{◌≡◌, ◌++◌, drop}
use Rattle.tp_audit.specs.Audits.{fates_in}
use Rattle.tp_audit.proofs.fates.fates_in.Given as goal

abbrev pub invariant-loop-doubt : goal.invariant-loop-doubt
invariant-loop-doubt l = l.fates.items ++ fates_in l.sites.entries (drop l.doubt-index l.doubts) ≡ fates_in l.sites.entries l.doubts
