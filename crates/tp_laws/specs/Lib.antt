pub mod Whole
pub mod Deployed
pub use Rattle.tp_members.specs.Expansion
pub use Rattle.tp_runs.specs.RolledSeen
pub use Rattle.tp_site_logs.specs.SiteLogs
pub use Rattle.tp_deployments.specs.Deployments
pub use Rattle.tp_deployments.specs.RunOf
