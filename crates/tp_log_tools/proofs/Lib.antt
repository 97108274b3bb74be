pub mod ReadOn
pub mod Breaking
pub mod Found
pub mod Ordered
pub mod Opened
pub mod Outputs
pub mod Shortened
pub mod Finds
