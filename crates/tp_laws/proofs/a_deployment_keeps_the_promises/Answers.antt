use Rattle.tp_laws.proofs.Deployed.{deployments_keep, deployments_stay}
use Rattle.tp_laws.proofs.a_deployment_keeps_the_promises.Goals as goal

pub returns : goal.returns
returns c = record { kept = deployments_keep; stays = deployments_stay }
