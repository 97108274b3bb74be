use Rattle.tp_deployments.proofs.Deployed.{a_deployment, a_deployment_on}
use Rattle.tp_deployments.proofs.a_deployment_is_a_run.Goals as goal

pub returns : goal.returns
returns c = record { is = a_deployment; on = a_deployment_on }
