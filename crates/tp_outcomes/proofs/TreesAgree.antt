-- All that the nodes of a tree are promised together.
use Rattle.std.proofs.Common.{List}
use Rattle.tp_model.specs.Happenings.{Happening, run}
use Rattle.tp_outcomes.specs.Agreement.{TreesAgree}
use Rattle.tp_histories.proofs.worlds.Unique.{unique_run}
use Rattle.tp_agreement.proofs.Agreed.{commits_alone}
use Rattle.tp_agreement.proofs.Logs.{logs_agree}
use Rattle.tp_reports.proofs.ReportFree.{report_free_commits}
use Rattle.tp_runs.proofs.Hanging.{hangs}
use Rattle.tp_outcomes.proofs.Shown.{one_is_shown}
use Rattle.tp_outcomes.proofs.TreesListed.{belongs_so, listed_once}

pub trees_agree : (es : List Happening) → TreesAgree (run es)
trees_agree es = record {
  commits = commits_alone es;
  logs = logs_agree es;
  shown = one_is_shown es;
  report_free = report_free_commits es;
  belongs = belongs_so es;
  entered = unique_run es;
  hangs = λ t y of other. let h = hangs es t y of other in (h.superior, h.id, h.branch);
  listed = listed_once es;
}
