pub mod Images
pub mod Answering
pub mod Writing
pub mod Progress
pub mod Serving
pub mod Starting
