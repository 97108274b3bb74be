pub mod Clearing
pub mod Reports
