mod Places
mod Placing
mod Starting
pub mod Given
mod Happened
pub mod Deployed
