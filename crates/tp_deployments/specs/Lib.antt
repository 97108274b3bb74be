pub mod Deployments
pub mod RunOf
