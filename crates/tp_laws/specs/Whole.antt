-- What is promised of the world that a run leaves, on one page: the definitions' own promises, and beside them what the laws
-- say of the nodes of one tree, of what was forced, and of reports. What holds between a run and what happens after it (what was
-- told stays told; a settled tree has committed for good) is said by its own laws, which speak of two moments.
use Rattle.tp_model.specs.World.{World}
use Rattle.tp_model.specs.Promises.{Promised}
use Rattle.tp_reports.specs.Reports.{ReportFreeCloses, DoneBelow}
use Rattle.tp_failure_free.specs.DrainedTrees.{SettledCloses, SettledTreeCommits, SettledTreeCloses}
use Rattle.tp_forced.specs.Taken.{TakenOnce}
use Rattle.tp_forced.specs.TreeLog.{OneLog, EndsLast, CommitsForceSo, RollsUnforced}
use Rattle.tp_outcomes.specs.Agreement.{TreesAgree}
use Rattle.tp_outcomes.specs.Counting.{CountedIsThere}
use Rattle.tp_outcomes.specs.Shown.{ToldOfTrees, LeftIsUntold}
use Rattle.tp_outcomes.specs.Starting.{ClosesOnce}
use Rattle.tp_report_causes.specs.Causes.{ReportsHaveCauses}
use Rattle.tp_report_causes.specs.Alarms.{NoFalseAlarm}
use Rattle.tp_report_causes.specs.Apart.{CommitmentsAreApart, RollbacksAreApart}
use Rattle.tp_finishing.specs.Waiting.{AllWait}
use Rattle.tp_finishing.specs.Finishing.{IsOver, IsClosed}
use Rattle.tp_finishing.specs.Again.{LostIsSaidAgain}

pub record AllPromised (w : World) : Type 0 where
  -- legal histories, associations, control, the headline, what users see, a node and its branches, reports, mixed trees
  pub promised : Promised w
  -- the nodes of one tree: Commit stands alone, logs agree, one outcome is shown, a completion with no report at the root; who
  -- is in the tree, once, and how it hangs together
  pub trees : TreesAgree w
  -- where a branch is counted, there is a node that logged Ready for it
  pub counted : CountedIsThere w
  -- an outcome is told while a transaction is current, and never in a tree that the node left
  pub told : ToldOfTrees w
  pub left : LeftIsUntold w
  -- exactly one closing line speaks of a tree that has a node; of one that is complete with no report at its root, and of one that
  -- is drained without failure and whose users asked for commitment or left, it says that all agree on commitment
  pub closed : ClosesOnce w
  pub report_free_closes : ReportFreeCloses w
  pub settled_closes : SettledCloses w
  -- and so where it is drained, and nothing of it failed, in the time in which it is current at its nodes: each that stays committed
  pub settled_tree : SettledTreeCommits w
  pub settled_tree_closes : SettledTreeCloses w
  -- a Done with no report speaks for its branch
  pub done_below : DoneBelow w
  -- what a node forces of a tree: under one key, in one order, nothing after the end, three records where all is clear, none where
  -- it left or rolled early; and each record of an association is taken once
  pub one_log : OneLog w
  pub ends_last : EndsLast w
  pub commits_force : CommitsForceSo w
  pub rolls_unforced : RollsUnforced w
  pub taken_once : TakenOnce w
  -- a report has its cause at the node or in a branch's word; and a node at or below decided to roll back, or gave up a branch
  pub causes : ReportsHaveCauses w
  pub no_false_alarm : NoFalseAlarm w
  -- and behind mix stands a decision of the other outcome, behind hazard a branch given up
  pub commitments_apart : CommitmentsAreApart w
  pub rollbacks_apart : RollbacksAreApart w
  -- a rollback whose user has finished waits for a peer that is linked; no tree is open where no node has a transaction; and what a stop
  -- may have swallowed is said again
  pub rollbacks_wait : AllWait w
  pub over_is_closed : IsOver w → IsClosed w
  pub said_again : LostIsSaidAgain w
