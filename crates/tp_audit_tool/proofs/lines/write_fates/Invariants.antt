use Rattle.std.proofs.Common.{◌≡◌, ◌++◌, drop}
use Rattle.tp_audit_tool.specs.AuditTranscript.{fate_texts}
use Rattle.tp_audit_tool.proofs.lines.write_fates.Given as goal

abbrev pub invariant-loop-fate : goal.invariant-loop-fate
invariant-loop-fate l = l.out ++ fate_texts (drop l.fate-index l.fates) ≡ l.initial.out ++ fate_texts l.fates
