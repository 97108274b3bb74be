pub mod Cut
pub mod Readings
pub mod Back
