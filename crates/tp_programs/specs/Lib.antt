pub mod Stopped
pub mod Runs
pub mod Batches
