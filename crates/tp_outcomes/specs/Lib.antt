pub mod Shown
pub mod Staying
pub mod Starting
pub mod Agreement
pub mod Counting
