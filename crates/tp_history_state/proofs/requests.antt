pub mod Decision
pub mod Prepared
