use Rattle.tp_model.specs.Happenings.{run}
use Rattle.tp_audit.specs.Runs.{logs_of}
use Rattle.tp_audit.specs.Fates.{fates}
use Rattle.tp_audit.proofs.Runs.{all_stand, verdict_yes, outcomes_agree}
use Rattle.tp_audit.proofs.Mismatching.{none_mismatch}
use Rattle.tp_audit.proofs.laws.audit_of_run.Goals as goal

pub returns-clause-all : goal.returns-clause-all
returns-clause-all c = λ es. verdict_yes (run es) (logs_of (run es)) (c.logs_agree.ensures es) (c.a_sites_log_tells_its_nodes.ensures es) (all_stand (run es))

pub returns-clause-parts : goal.returns-clause-parts
returns-clause-parts c = λ es logs on. verdict_yes (run es) logs (c.logs_agree.ensures es) (c.a_sites_log_tells_its_nodes.ensures es) on

pub returns-clause-decisions : goal.returns-clause-decisions
returns-clause-decisions c = λ es logs on. outcomes_agree (run es) logs (c.logs_agree.ensures es) (c.a_sites_log_tells_its_nodes.ensures es) on

pub returns-clause-mismatches : goal.returns-clause-mismatches
returns-clause-mismatches c = λ es logs whole. none_mismatch es logs (fates logs) whole (c.a_sites_log_tells_its_nodes.ensures es)
