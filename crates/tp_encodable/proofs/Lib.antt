pub mod Places
pub mod Turning
pub mod Standing
pub mod Moving
pub mod Running
pub mod Short
pub mod Read
pub mod Kept
