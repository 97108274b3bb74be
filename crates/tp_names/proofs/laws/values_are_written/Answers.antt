use Rattle.tp_names.proofs.Sites.{site_written}
use Rattle.tp_names.proofs.Counts.{octets_written}
use Rattle.tp_names.proofs.Values.{mark_written, aaid_written, branch_written, key_written, addr_written, outcome_written, report_written, child_written}
use Rattle.tp_names.proofs.laws.values_are_written.Goals as goal

pub returns : goal.returns
returns c = record {
  site = site_written;
  mark = mark_written;
  aaid = aaid_written;
  branch = branch_written;
  key = key_written;
  addr = addr_written;
  outcome = outcome_written;
  report = report_written;
  octets = octets_written;
  child = child_written;
}
