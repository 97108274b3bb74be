use Rattle.tp_readers.proofs.Audits.{audits_are_yes}
use Rattle.tp_readers.proofs.an_audit_of_a_deployment_is_yes.Goals as goal

pub returns : goal.returns
returns c = audits_are_yes
