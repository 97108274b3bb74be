-- The headline, and all that is promised of a world.
use Rattle.std.proofs.Common.{List}
use Rattle.tp_model.specs.Happenings.{Happening, run}
use Rattle.tp_model.specs.Promises.{Headline, Promised}
use Rattle.tp_agreement.proofs.Agreed.{one_outcome}
use Rattle.tp_runs.proofs.Breaks.{associations}
use Rattle.tp_control.proofs.EndsRounds.{control_is_one}
use Rattle.tp_agreement.proofs.Mixed.{mixed_is_named}
use Rattle.tp_agreement.proofs.ParentChild.{parent_and_child}
use Rattle.tp_histories.proofs.worlds.Starts.{all_legal}
use Rattle.tp_runs.proofs.Users.{users_see}
use Rattle.tp_reports.proofs.ReportFree.{report_free, report_free_closes}
use Rattle.tp_reports.proofs.Reported.{reports, done_below}
use Rattle.tp_failure_free.proofs.DrainedCommits.{drained_commits, settled_closes, tree_commits, tree_closes}
use Rattle.tp_forced.proofs.TreeLogs.{one_log}
use Rattle.tp_forced.proofs.Forced.{ends_last, commits_force_so, rolls_unforced}
use Rattle.tp_forced.proofs.TakenOnce.{taken_once}
use Rattle.tp_outcomes.proofs.Shown.{told_of_trees, left_untold}
use Rattle.tp_outcomes.proofs.TreesListed.{closes_once}
use Rattle.tp_outcomes.proofs.CountedThere.{counted_is_there}
use Rattle.tp_outcomes.proofs.TreesAgree.{trees_agree}
use Rattle.tp_report_causes.proofs.Causes.{reports_have_causes}
use Rattle.tp_report_causes.proofs.Alarms.{no_false_alarm}
use Rattle.tp_report_causes.proofs.Commitments.{commitments_apart}
use Rattle.tp_report_causes.proofs.Rollbacks.{rollbacks_apart}
use Rattle.tp_finishing.proofs.WaitingLaw.{rollbacks_wait}
use Rattle.tp_finishing.proofs.Closed.{over_is_closed}
use Rattle.tp_finishing.proofs.Again.{lost_is_said_again}
use Rattle.tp_laws.specs.Whole.{AllPromised}

-- ---- the headline

pub headline : (es : List Happening) → Headline (run es)
headline es = record { one_outcome = one_outcome es; report_free = report_free es; drained_commits = drained_commits es }

-- ---- all that is promised

pub promised : (es : List Happening) → Promised (run es)
promised es = record {
  legal = all_legal es;
  associations = associations es;
  control = control_is_one es;
  headline = headline es;
  users = users_see es;
  family = parent_and_child es;
  reports = reports es;
  mixed = mixed_is_named es;
}

pub all_promised : (es : List Happening) → AllPromised (run es)
all_promised es = record {
  promised = promised es;
  trees = trees_agree es;
  counted = counted_is_there es;
  told = told_of_trees es;
  left = left_untold es;
  closed = closes_once es;
  report_free_closes = report_free_closes es;
  settled_closes = settled_closes es;
  settled_tree = tree_commits es;
  settled_tree_closes = tree_closes es;
  done_below = done_below es;
  one_log = one_log es;
  ends_last = ends_last es;
  commits_force = commits_force_so es;
  rolls_unforced = rolls_unforced es;
  taken_once = taken_once es;
  causes = reports_have_causes es;
  no_false_alarm = no_false_alarm es;
  commitments_apart = commitments_apart es;
  rollbacks_apart = rollbacks_apart es;
  rollbacks_wait = rollbacks_wait es;
  over_is_closed = over_is_closed es;
  said_again = lost_is_said_again es;
}
