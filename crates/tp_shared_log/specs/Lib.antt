pub mod Images
pub mod Locks
pub mod Shares
pub mod Spends
pub mod Unfits
