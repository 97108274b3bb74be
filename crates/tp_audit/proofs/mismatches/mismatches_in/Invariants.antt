use Rattle.std.proofs.Common.{◌≡◌, ◌++◌, drop}
use Rattle.tp_audit.specs.Audits.{mismatches_in}
use Rattle.tp_audit.proofs.mismatches.mismatches_in.Given as goal

abbrev pub invariant-loop-fate : goal.invariant-loop-fate
invariant-loop-fate l = l.found.items ++ mismatches_in l.sites.entries l.ledger (drop l.fate-index l.fates) ≡ mismatches_in l.sites.entries l.ledger l.fates
