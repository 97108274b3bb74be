pub mod Steps
pub mod Weaving
pub mod Batches
