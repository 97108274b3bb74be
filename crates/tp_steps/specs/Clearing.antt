-- Commitments that end clear, that is with no report, and those that are kept for their damage. What a node knows of the ends of
-- its branches by then: each is done with no report, or has left.
use Rattle.std.specs.Prelude.{◌||◌, Bool, true, false, Option, Some, None, List, [], ◌∷◌}
use Rattle.tp_names.specs.declared.identifiers.Aaid.{Aaid}
use Rattle.tp_names.specs.declared.outcome.Outcome.{Outcome}
use Rattle.tp_names.specs.declared.outcome.Report.{Report}
use Rattle.tp_names.specs.Same.{is_aaid}
use Rattle.tp_names.specs.Reports.{is_report_none}
use Rattle.tp_records.specs.declared.indication.Indication.{Indication}
use Rattle.tp_logrec.specs.declared.record.LogRec.{LogRec}

abbrev pub is_complete_none : Indication → Bool
is_complete_none (Indication.CommitComplete r) = is_report_none r
is_complete_none _ = false

abbrev pub same_report : Report → Report → Bool
same_report Report.None Report.None = true
same_report Report.None Report.Hazard = false
same_report Report.None Report.Mix = false
same_report Report.Hazard Report.None = false
same_report Report.Hazard Report.Hazard = true
same_report Report.Hazard Report.Mix = false
same_report Report.Mix Report.None = false
same_report Report.Mix Report.Hazard = false
same_report Report.Mix Report.Mix = true

-- a commitment, or a rollback, is complete with that report
abbrev pub is_complete : Outcome → Report → Indication → Bool
is_complete Outcome.Commit r (Indication.CommitComplete s) = same_report r s
is_complete Outcome.Rollback r (Indication.RollbackComplete s) = same_report r s
is_complete _ r _ = false

-- a Damage, whatever its side
abbrev pub damages_tree : Aaid → Option LogRec → Bool
damages_tree t None = false
damages_tree t (Some (LogRec.Boot n)) = false
damages_tree t (Some (LogRec.Ready n k s cs)) = false
damages_tree t (Some (LogRec.Heuristic n k o)) = false
damages_tree t (Some (LogRec.Commit n k s cs)) = false
damages_tree t (Some (LogRec.Damage n k s o r cs)) = is_aaid t k.aaid
damages_tree t (Some (LogRec.End n k o)) = false

-- the log has a Damage of the tree; it has an End of its commitment with none before
abbrev pub has_damage : Aaid → List LogRec → Bool
has_damage t [] = false
has_damage t (r ∷ rs) = damages_tree t (Some r) || has_damage t rs
