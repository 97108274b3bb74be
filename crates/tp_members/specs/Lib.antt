pub mod Expansion
pub mod Schedules
