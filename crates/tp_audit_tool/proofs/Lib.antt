pub mod Added
pub mod Progress
pub mod Listening
pub mod Writing
