pub mod TreeLog
pub mod Taken
