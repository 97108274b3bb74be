pub mod Paired
pub mod PairedSteps
pub mod Committed
