-- A deployment keeps what is promised of runs, since it is one.
use Rattle.tp_outcomes.proofs.Staying.{outcomes_stay}
use Rattle.tp_deployments.proofs.Deployed.{a_deployment, a_deployment_on}
use Rattle.tp_laws.specs.Deployed.{DeploymentsKeep, DeploymentsStay}
use Rattle.tp_laws.proofs.Promises.{all_promised}

pub deployments_keep : DeploymentsKeep
deployments_keep qs ds arr d = let r = a_deployment qs ds arr d in (r.0, r.1, all_promised r.0)

pub deployments_stay : DeploymentsStay
deployments_stay qs more ds arr d = let r = a_deployment_on qs more ds arr d in (r.0, r.1, r.2, r.3, outcomes_stay r.1 r.0)
