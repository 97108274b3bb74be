-- What holds of all nodes of a tree together, beside what is promised of a node and its branches.
use Rattle.tp_model.specs.World.{World}
use Rattle.tp_histories.specs.Members.{IsUnique}
use Rattle.tp_runs.specs.Hanging.{HangsTogether}
use Rattle.tp_agreement.specs.Logs.{CommitsAlone, LogsAgree}
use Rattle.tp_reports.specs.Reports.{ReportFreeCommits}
use Rattle.tp_outcomes.specs.Shown.{OneIsShown}
use Rattle.tp_outcomes.specs.Starting.{BelongsSo, ListedOnce}

pub record TreesAgree (w : World) : Type 0 where
  -- where a node logged Commit none rolled, whatever was decided; no log has Commit where another has the end or the damage of
  -- a rollback
  pub commits : CommitsAlone w
  pub logs : LogsAgree w
  -- no two users are told different outcomes
  pub shown : OneIsShown w
  -- where the root's commitment was complete with no report, every node that stays logged Commit and was complete with none
  pub report_free : ReportFreeCommits w
  -- a node is in a tree exactly where it started it, or took a Begin of it; it takes one at most once; and each node but the
  -- root is a branch of another
  pub belongs : BelongsSo w
  pub entered : IsUnique w.nodes
  pub hangs : HangsTogether w
  -- the world lists it once
  pub listed : ListedOnce w
