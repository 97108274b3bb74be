pub mod Calling
pub mod Responding
pub mod Turning
pub mod Writing
pub mod Looping
pub mod Stopping
pub mod Transacted
