use Rattle.tp_names.proofs.Sites.{site_scan}
use Rattle.tp_names.proofs.Counts.{octets_scan}
use Rattle.tp_names.proofs.Values.{mark_scan, aaid_scan, branch_scan, key_scan, addr_scan, outcome_scan, report_scan, child_scan}
use Rattle.tp_names.proofs.laws.values_are_scanned.Goals as goal

pub returns : goal.returns
returns c = record {
  site = site_scan;
  mark = mark_scan;
  aaid = aaid_scan;
  branch = branch_scan;
  key = key_scan;
  addr = addr_scan;
  outcome = outcome_scan;
  report = report_scan;
  octets = octets_scan;
  child = child_scan;
}
