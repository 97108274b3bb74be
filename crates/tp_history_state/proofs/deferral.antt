pub mod Silent
pub mod Defers
pub mod Deferral
