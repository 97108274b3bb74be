-- Marks, identifiers, addresses, outcomes, reports and children: their scans are right, and what is read is written so.
use Rattle.std.proofs.Common.{[], ◌∷◌, refl, arith}
use Rattle.tp_names.specs.declared.outcome.Outcome.{Outcome}
use Rattle.tp_names.specs.declared.outcome.Report.{Report}
use Rattle.tp_names.specs.Bytes.{short_bytes, long_bytes, site_bytes, mark_bytes, aaid_bytes, branch_bytes, maybe_bytes, key_bytes, addr_bytes, outcome_bytes, report_bytes, child_bytes}
use Rattle.tp_names.specs.Reading.{make, ◌and◌, read_short, read_long, read_site, read_maybe, mark_of, aaid_of, branch_of, key_of, addr_of, child_of, read_mark, read_aaid, read_branch, read_key, read_addr, read_outcome, read_report, read_child}
use Rattle.tp_names.specs.Scanning.{scan_make, ◌with◌, scan_short, scan_long, scan_site, scan_maybe, scan_mark, scan_aaid, scan_branch, scan_key, scan_addr, scan_outcome, scan_report, scan_child}
use Rattle.tp_names.specs.Places.{IsScan, IsWrittenBy}
use Rattle.tp_names.proofs.Sequences.{scan_made, scan_both}
use Rattle.tp_names.proofs.Numbers.{short_scan, long_scan, short_written, long_written}
use Rattle.tp_names.proofs.Codes.{code_scan, maybe_scan}
use Rattle.tp_names.proofs.Sites.{site_scan, site_written}
use Rattle.tp_names.proofs.Written.{row_0, row_2, row_3, code_written, maybe_written, written_alone}

-- ---- scans

pub mark_scan : IsScan read_mark scan_mark
unfolding scan_mark
mark_scan =
    scan_both (make mark_of and read_long and read_short) read_long (scan_make mark_of with scan_long with scan_short) scan_long
    (scan_both (make mark_of and read_long) read_short (scan_make mark_of with scan_long) scan_short
    (scan_both (make mark_of) read_long (scan_make mark_of) scan_long (scan_made mark_of) long_scan) short_scan) long_scan

pub aaid_scan : IsScan read_aaid scan_aaid
unfolding scan_aaid
aaid_scan =
    scan_both (make aaid_of and read_site) read_mark (scan_make aaid_of with scan_site) scan_mark
    (scan_both (make aaid_of) read_site (scan_make aaid_of) scan_site (scan_made aaid_of) site_scan) mark_scan

pub branch_scan : IsScan read_branch scan_branch
unfolding scan_branch
branch_scan =
    scan_both (make branch_of and read_site) read_mark (scan_make branch_of with scan_site) scan_mark
    (scan_both (make branch_of) read_site (scan_make branch_of) scan_site (scan_made branch_of) site_scan) mark_scan

pub key_scan : IsScan read_key scan_key
unfolding scan_key
key_scan =
    scan_both (make key_of and read_aaid) (read_maybe read_branch) (scan_make key_of with scan_aaid) (scan_maybe scan_branch)
    (scan_both (make key_of) read_aaid (scan_make key_of) scan_aaid (scan_made key_of) aaid_scan) (maybe_scan read_branch scan_branch branch_scan)

pub addr_scan : IsScan read_addr scan_addr
unfolding scan_addr
addr_scan =
    scan_both (make addr_of and read_site) read_short (scan_make addr_of with scan_site) scan_short
    (scan_both (make addr_of) read_site (scan_make addr_of) scan_site (scan_made addr_of) site_scan) short_scan

pub child_scan : IsScan read_child scan_child
unfolding scan_child
child_scan =
    scan_both (make child_of and read_addr) read_branch (scan_make child_of with scan_addr) scan_branch
    (scan_both (make child_of) read_addr (scan_make child_of) scan_addr (scan_made child_of) addr_scan) branch_scan

pub outcome_scan : IsScan read_outcome scan_outcome
unfolding scan_outcome
outcome_scan =
    code_scan ((1, make Outcome.Commit) ∷ (2, make Outcome.Rollback) ∷ []) ((1, scan_make Outcome.Commit) ∷ (2, scan_make Outcome.Rollback) ∷ []) (omega arith)
    (refl, (scan_made Outcome.Commit, (refl, (scan_made Outcome.Rollback, tt))))

pub report_scan : IsScan read_report scan_report
unfolding scan_report
report_scan =
    code_scan ((0, make Report.None) ∷ (1, make Report.Hazard) ∷ (2, make Report.Mix) ∷ []) ((0, scan_make Report.None) ∷ (1, scan_make Report.Hazard) ∷ (2, scan_make Report.Mix) ∷ []) (omega arith)
    (refl, (scan_made Report.None, (refl, (scan_made Report.Hazard, (refl, (scan_made Report.Mix, tt))))))

-- ---- what is read is written so

pub mark_written : IsWrittenBy mark_bytes read_mark
mark_written = written_alone mark_bytes read_mark (row_3 mark_bytes [] mark_of long_bytes short_bytes long_bytes read_long read_short read_long (λ b n c. refl) long_written short_written long_written)

pub aaid_written : IsWrittenBy aaid_bytes read_aaid
aaid_written = written_alone aaid_bytes read_aaid (row_2 aaid_bytes [] aaid_of site_bytes mark_bytes read_site read_mark (λ s m. refl) site_written mark_written)

pub branch_written : IsWrittenBy branch_bytes read_branch
branch_written = written_alone branch_bytes read_branch (row_2 branch_bytes [] branch_of site_bytes mark_bytes read_site read_mark (λ s m. refl) site_written mark_written)

pub key_written : IsWrittenBy key_bytes read_key
key_written = written_alone key_bytes read_key (row_2 key_bytes [] key_of aaid_bytes (maybe_bytes branch_bytes) read_aaid (read_maybe read_branch) (λ a b. refl) aaid_written (maybe_written branch_bytes read_branch branch_written))

pub addr_written : IsWrittenBy addr_bytes read_addr
addr_written = written_alone addr_bytes read_addr (row_2 addr_bytes [] addr_of site_bytes short_bytes read_site read_short (λ s n. refl) site_written short_written)

pub child_written : IsWrittenBy child_bytes read_child
child_written = written_alone child_bytes read_child (row_2 child_bytes [] child_of addr_bytes branch_bytes read_addr read_branch (λ a b. refl) addr_written branch_written)

pub outcome_written : IsWrittenBy outcome_bytes read_outcome
outcome_written =
    code_written outcome_bytes ((1, make Outcome.Commit) ∷ (2, make Outcome.Rollback) ∷ [])
    (row_0 outcome_bytes (1 ∷ []) Outcome.Commit refl, (row_0 outcome_bytes (2 ∷ []) Outcome.Rollback refl, tt))

pub report_written : IsWrittenBy report_bytes read_report
report_written =
    code_written report_bytes ((0, make Report.None) ∷ (1, make Report.Hazard) ∷ (2, make Report.Mix) ∷ [])
    (row_0 report_bytes (0 ∷ []) Report.None refl, (row_0 report_bytes (1 ∷ []) Report.Hazard refl, (row_0 report_bytes (2 ∷ []) Report.Mix refl, tt)))
