pub mod Added
pub mod Decimals
mod Digits
pub mod Joined
