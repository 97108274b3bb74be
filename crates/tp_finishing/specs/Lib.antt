pub mod Doubt
pub mod Quiet
pub mod Waiting
pub mod Cuts
pub mod Finishing
pub mod Again
pub mod Examples
