pub mod DeploymentTrials
