pub mod AsNode
pub mod Readings
pub mod Texts
pub mod Drives
pub mod Does
pub mod Complete
