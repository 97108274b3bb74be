pub mod Status
pub mod Reading
pub mod Driving
pub mod Running
