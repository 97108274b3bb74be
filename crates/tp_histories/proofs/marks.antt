pub mod Traced
pub mod Separate
pub mod Ends
