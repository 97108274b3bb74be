-- How the code reads one log record: what its reader gives, and where it gives nothing, how many bytes are left
-- from the first one on with which nothing is ever given.
use Rattle.std.specs.Prelude.{ℕ, nat_le, Option, Some, None, Result, List, [], ◌∷◌, ◌++◌}
use Rattle.tp_names.specs.declared.identifiers.Addr.{Addr}
use Rattle.tp_names.specs.declared.identifiers.BranchId.{BranchId}
use Rattle.tp_names.specs.declared.identifiers.NodeKey.{NodeKey}
use Rattle.tp_names.specs.declared.children.Child.{Child}
use Rattle.tp_names.specs.declared.outcome.Outcome.{Outcome}
use Rattle.tp_names.specs.declared.outcome.Report.{Report}
use Rattle.tp_names.specs.Reading.{key_of}
use Rattle.tp_names.specs.Scanning.{Scan, scan_make, ◌with◌, with_value, then_scan, scan_by_code, scan_byte_that, scan_count, scan_many, scan_short, scan_long, scan_aaid, scan_branch, scan_key, scan_addr, scan_outcome, scan_child}
use Rattle.tp_logrec.specs.declared.record.LogRec.{LogRec}
use Rattle.tp_logrec.specs.declared.record.LogVersion.{LogVersion}
use Rattle.tp_logrec.specs.RecordReading.{key_and_superior_of, judgement_of, boot_of, ready_of, heuristic_of, commit_of, damage_of, end_of}

abbrev pub scan_child_count : LogVersion → Scan ℕ
scan_child_count LogVersion.One = scan_byte_that (λ n. nat_le n 32)
scan_child_count LogVersion.Two = scan_count 256

unfoldable pub scan_children : LogVersion → Scan (List Child)
scan_children ver bytes = then_scan (scan_child_count ver bytes) (scan_many scan_child)

unfoldable pub scan_some_branch : Scan (Option BranchId)
scan_some_branch = scan_by_code ((1, scan_make (λ b. Some b) with scan_branch) ∷ [])

unfoldable pub scan_branch_key : Scan NodeKey
scan_branch_key = scan_make key_of with scan_aaid with scan_some_branch

unfoldable pub scan_branch_and_superior : Scan (Option BranchId × Option Addr)
scan_branch_and_superior = scan_by_code ((0, scan_make (None, None)) ∷ (1, scan_make (λ b a. (Some b, Some a)) with scan_branch with scan_addr) ∷ [])

unfoldable pub scan_key_and_superior : Scan (NodeKey × Option Addr)
scan_key_and_superior = scan_make key_and_superior_of with scan_aaid with scan_branch_and_superior

unfoldable pub scan_harm : Scan Report
scan_harm = scan_by_code ((1, scan_make Report.Hazard) ∷ (2, scan_make Report.Mix) ∷ [])

unfoldable pub scan_judgement : Scan (Outcome × Report)
scan_judgement = scan_make judgement_of with scan_outcome with scan_harm

unfoldable pub scan_boot : Scan LogRec
scan_boot = scan_make boot_of with scan_long

unfoldable pub scan_ready : LogVersion → Scan LogRec
scan_ready ver = scan_make ready_of with scan_short with scan_branch_key with scan_addr with scan_children ver

unfoldable pub scan_heuristic : Scan LogRec
scan_heuristic = scan_make heuristic_of with scan_short with scan_branch_key with scan_outcome

unfoldable pub scan_commit : LogVersion → Scan LogRec
scan_commit ver = scan_make commit_of with scan_short with scan_key_and_superior with scan_children ver

unfoldable pub scan_damage : LogVersion → Scan LogRec
scan_damage ver = scan_make damage_of with scan_short with scan_key_and_superior with scan_judgement with scan_children ver

unfoldable pub scan_end : Scan LogRec
scan_end = scan_make end_of with scan_short with scan_key with scan_outcome

unfoldable pub scan_record : LogVersion → Scan LogRec
scan_record ver =
    scan_by_code (
    (1, scan_boot)
    ∷ (2, scan_ready ver)
    ∷ (3, scan_heuristic)
    ∷ (4, scan_commit ver)
    ∷ (5, scan_damage ver)
    ∷ (6, scan_end)
    ∷ []
    )

-- values that were read stand before those that are read next
abbrev pub behind : List Child → Result (List Child × List ℕ) ℕ → Result (List Child × List ℕ) ℕ
behind front r = with_value (λ rest. front ++ rest) r
