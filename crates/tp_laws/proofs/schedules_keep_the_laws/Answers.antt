use Rattle.tp_model.specs.Promises.{AllLegal, PrefixTaken, WhatUsersSee, OneHolder, ParentAndChild, OneOutcome, ReportFree, DrainedCommits, Reports, MixedIsNamed}
use Rattle.tp_agreement.proofs.Agreed.{one_outcome}
use Rattle.tp_runs.proofs.Breaks.{associations}
use Rattle.tp_failure_free.proofs.DrainedCommits.{drained_commits}
use Rattle.tp_control.proofs.EndsRounds.{control_is_one}
use Rattle.tp_members.proofs.LineRuns.{transcripts_leave_runs, of_run}
use Rattle.tp_agreement.proofs.Mixed.{mixed_is_named}
use Rattle.tp_agreement.proofs.ParentChild.{parent_and_child}
use Rattle.tp_reports.proofs.ReportFree.{report_free}
use Rattle.tp_reports.proofs.Reported.{reports}
use Rattle.tp_histories.proofs.worlds.Starts.{all_legal}
use Rattle.tp_runs.proofs.Users.{users_see}
use Rattle.tp_laws.proofs.schedules_keep_the_laws.Goals as goal

pub returns : goal.returns
returns c = record {
  legal = λ members schedule answers. of_run AllLegal all_legal _ (transcripts_leave_runs members schedule answers);
  taken = λ members schedule answers. of_run PrefixTaken associations _ (transcripts_leave_runs members schedule answers);
  users = λ members schedule answers. of_run WhatUsersSee users_see _ (transcripts_leave_runs members schedule answers);
  control = λ members schedule answers. of_run OneHolder control_is_one _ (transcripts_leave_runs members schedule answers);
  family = λ members schedule answers. of_run ParentAndChild parent_and_child _ (transcripts_leave_runs members schedule answers);
  outcome = λ members schedule answers. of_run OneOutcome one_outcome _ (transcripts_leave_runs members schedule answers);
  free = λ members schedule answers. of_run ReportFree report_free _ (transcripts_leave_runs members schedule answers);
  drained = λ members schedule answers. of_run DrainedCommits drained_commits _ (transcripts_leave_runs members schedule answers);
  reports = λ members schedule answers. of_run Reports reports _ (transcripts_leave_runs members schedule answers);
  mixed = λ members schedule answers. of_run MixedIsNamed mixed_is_named _ (transcripts_leave_runs members schedule answers);
}
