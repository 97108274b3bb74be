pub mod Promises
pub mod Deployed
pub use Rattle.tp_steps.proofs.every.Answers
pub use Rattle.tp_histories.proofs.trees.Knowing
pub use Rattle.tp_runs.proofs.SeenRolled
pub use Rattle.tp_members.proofs.LineRuns
pub use Rattle.tp_site_logs.proofs.EveryLog
pub use Rattle.tp_site_logs.proofs.NextStart
