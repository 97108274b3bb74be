pub mod Parts
pub mod Making
pub mod Writes
pub mod Counts
