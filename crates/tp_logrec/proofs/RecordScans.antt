-- The scans of log records are right.
use Rattle.std.proofs.Common.{[], ◌∷◌, refl, arith, Some, None}
use Rattle.std.specs.Prelude.{nat_le}
use Rattle.tp_names.specs.declared.outcome.Report.{Report}
use Rattle.tp_names.specs.Reading.{make, ◌and◌, that, key_of, read_byte, read_short, read_long, read_many, read_aaid, read_branch, read_key, read_addr, read_outcome, read_child}
use Rattle.tp_names.specs.Scanning.{scan_make, ◌with◌, scan_byte_that, scan_count, scan_many, scan_short, scan_long, scan_aaid, scan_branch, scan_key, scan_addr, scan_outcome, scan_child}
use Rattle.tp_names.specs.Places.{IsScan}
use Rattle.tp_names.proofs.Sequences.{scan_made, scan_both}
use Rattle.tp_names.proofs.Numbers.{short_scan, long_scan}
use Rattle.tp_names.proofs.Codes.{code_scan, byte_that_scan}
use Rattle.tp_names.proofs.Choices.{chosen_scan, many_scan}
use Rattle.tp_names.proofs.Counts.{count_scan}
use Rattle.tp_names.proofs.Values.{aaid_scan, branch_scan, key_scan, addr_scan, child_scan, outcome_scan}
use Rattle.tp_logrec.specs.declared.record.LogVersion.{LogVersion}
use Rattle.tp_logrec.specs.RecordReading.{read_children, read_some_branch, read_branch_key, read_branch_and_superior, key_and_superior_of, read_key_and_superior, read_harm, judgement_of, read_judgement, boot_of, ready_of, heuristic_of, commit_of, damage_of, end_of, record_kinds, read_record}
use Rattle.tp_logrec.specs.RecordScanning.{scan_children, scan_some_branch, scan_branch_key, scan_branch_and_superior, scan_key_and_superior, scan_harm, scan_judgement, scan_boot, scan_ready, scan_heuristic, scan_commit, scan_damage, scan_end, scan_record}

pub children_scan : (ver : LogVersion) → IsScan (read_children ver) (scan_children ver)
unfolding scan_children
children_scan LogVersion.One =
    chosen_scan (that (λ n. nat_le n 32) read_byte) (read_many read_child) (scan_byte_that (λ n. nat_le n 32)) (scan_many scan_child)
    (byte_that_scan (λ n. nat_le n 32) 0 (omega arith) refl) (many_scan read_child scan_child child_scan)
children_scan LogVersion.Two =
    chosen_scan (that (λ n. nat_le n 256) read_short) (read_many read_child) (scan_count 256) (scan_many scan_child)
    (count_scan 256) (many_scan read_child scan_child child_scan)

pub some_branch_scan : IsScan read_some_branch scan_some_branch
unfolding scan_some_branch
some_branch_scan =
    code_scan ((1, make (λ b. Some b) and read_branch) ∷ []) ((1, scan_make (λ b. Some b) with scan_branch) ∷ []) (omega arith)
    (refl, (scan_both (make (λ b. Some b)) read_branch (scan_make (λ b. Some b)) scan_branch (scan_made (λ b. Some b)) branch_scan, tt))

pub branch_key_scan : IsScan read_branch_key scan_branch_key
unfolding scan_branch_key
branch_key_scan =
    scan_both (make key_of and read_aaid) read_some_branch (scan_make key_of with scan_aaid) scan_some_branch
    (scan_both (make key_of) read_aaid (scan_make key_of) scan_aaid (scan_made key_of) aaid_scan) some_branch_scan

pub branch_and_superior_scan : IsScan read_branch_and_superior scan_branch_and_superior
unfolding scan_branch_and_superior
branch_and_superior_scan =
    code_scan ((0, make (None, None)) ∷ (1, make (λ b a. (Some b, Some a)) and read_branch and read_addr) ∷ [])
    ((0, scan_make (None, None)) ∷ (1, scan_make (λ b a. (Some b, Some a)) with scan_branch with scan_addr) ∷ []) (omega arith) (
      refl,
      (
        scan_made (None, None),
        (
          refl,
          (
            scan_both (make (λ b a. (Some b, Some a)) and read_branch) read_addr (scan_make (λ b a. (Some b, Some a)) with scan_branch) scan_addr
                (scan_both (make (λ b a. (Some b, Some a))) read_branch (scan_make (λ b a. (Some b, Some a))) scan_branch (scan_made (λ b a. (Some b, Some a))) branch_scan) addr_scan,
            tt,
          ),
        ),
      ),
    )

pub key_and_superior_scan : IsScan read_key_and_superior scan_key_and_superior
unfolding scan_key_and_superior
key_and_superior_scan =
    scan_both (make key_and_superior_of and read_aaid) read_branch_and_superior (scan_make key_and_superior_of with scan_aaid) scan_branch_and_superior
    (scan_both (make key_and_superior_of) read_aaid (scan_make key_and_superior_of) scan_aaid (scan_made key_and_superior_of) aaid_scan) branch_and_superior_scan

pub harm_scan : IsScan read_harm scan_harm
unfolding scan_harm
harm_scan =
    code_scan ((1, make Report.Hazard) ∷ (2, make Report.Mix) ∷ []) ((1, scan_make Report.Hazard) ∷ (2, scan_make Report.Mix) ∷ []) (omega arith)
    (refl, (scan_made Report.Hazard, (refl, (scan_made Report.Mix, tt))))

pub judgement_scan : IsScan read_judgement scan_judgement
unfolding scan_judgement
judgement_scan =
    scan_both (make judgement_of and read_outcome) read_harm (scan_make judgement_of with scan_outcome) scan_harm
    (scan_both (make judgement_of) read_outcome (scan_make judgement_of) scan_outcome (scan_made judgement_of) outcome_scan) harm_scan

-- ---- records

pub boot_scan : IsScan (make boot_of and read_long) scan_boot
unfolding scan_boot
boot_scan = scan_both (make boot_of) read_long (scan_make boot_of) scan_long (scan_made boot_of) long_scan

pub ready_scan : (ver : LogVersion) → IsScan (make ready_of and read_short and read_branch_key and read_addr and read_children ver) (scan_ready ver)
unfolding scan_ready
ready_scan ver =
    scan_both (make ready_of and read_short and read_branch_key and read_addr) (read_children ver) (scan_make ready_of with scan_short with scan_branch_key with scan_addr) (scan_children ver)
    (scan_both (make ready_of and read_short and read_branch_key) read_addr (scan_make ready_of with scan_short with scan_branch_key) scan_addr
    (scan_both (make ready_of and read_short) read_branch_key (scan_make ready_of with scan_short) scan_branch_key
    (scan_both (make ready_of) read_short (scan_make ready_of) scan_short (scan_made ready_of) short_scan) branch_key_scan) addr_scan) (children_scan ver)

pub heuristic_scan : IsScan (make heuristic_of and read_short and read_branch_key and read_outcome) scan_heuristic
unfolding scan_heuristic
heuristic_scan =
    scan_both (make heuristic_of and read_short and read_branch_key) read_outcome (scan_make heuristic_of with scan_short with scan_branch_key) scan_outcome
    (scan_both (make heuristic_of and read_short) read_branch_key (scan_make heuristic_of with scan_short) scan_branch_key
    (scan_both (make heuristic_of) read_short (scan_make heuristic_of) scan_short (scan_made heuristic_of) short_scan) branch_key_scan) outcome_scan

pub commit_scan : (ver : LogVersion) → IsScan (make commit_of and read_short and read_key_and_superior and read_children ver) (scan_commit ver)
unfolding scan_commit
commit_scan ver =
    scan_both (make commit_of and read_short and read_key_and_superior) (read_children ver) (scan_make commit_of with scan_short with scan_key_and_superior) (scan_children ver)
    (scan_both (make commit_of and read_short) read_key_and_superior (scan_make commit_of with scan_short) scan_key_and_superior
    (scan_both (make commit_of) read_short (scan_make commit_of) scan_short (scan_made commit_of) short_scan) key_and_superior_scan) (children_scan ver)

pub damage_scan : (ver : LogVersion) → IsScan (make damage_of and read_short and read_key_and_superior and read_judgement and read_children ver) (scan_damage ver)
unfolding scan_damage
damage_scan ver =
    scan_both (make damage_of and read_short and read_key_and_superior and read_judgement) (read_children ver) (scan_make damage_of with scan_short with scan_key_and_superior with scan_judgement) (scan_children ver)
    (scan_both (make damage_of and read_short and read_key_and_superior) read_judgement (scan_make damage_of with scan_short with scan_key_and_superior) scan_judgement
    (scan_both (make damage_of and read_short) read_key_and_superior (scan_make damage_of with scan_short) scan_key_and_superior
    (scan_both (make damage_of) read_short (scan_make damage_of) scan_short (scan_made damage_of) short_scan) key_and_superior_scan) judgement_scan) (children_scan ver)

pub end_scan : IsScan (make end_of and read_short and read_key and read_outcome) scan_end
unfolding scan_end
end_scan =
    scan_both (make end_of and read_short and read_key) read_outcome (scan_make end_of with scan_short with scan_key) scan_outcome
    (scan_both (make end_of and read_short) read_key (scan_make end_of with scan_short) scan_key
    (scan_both (make end_of) read_short (scan_make end_of) scan_short (scan_made end_of) short_scan) key_scan) outcome_scan

pub record_scan : (ver : LogVersion) → IsScan (read_record ver) (scan_record ver)
unfolding scan_record
record_scan ver =
    code_scan (record_kinds ver) ((1, scan_boot) ∷ (2, scan_ready ver) ∷ (3, scan_heuristic) ∷ (4, scan_commit ver) ∷ (5, scan_damage ver) ∷ (6, scan_end) ∷ []) (omega arith)
    (refl, (boot_scan, (refl, (ready_scan ver, (refl, (heuristic_scan, (refl, (commit_scan ver, (refl, (damage_scan ver, (refl, (end_scan, tt))))))))))))
