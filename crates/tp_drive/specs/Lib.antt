pub mod Begun
pub mod Crews
pub mod Drives
pub mod Endings
pub mod Merging
pub mod Runs
pub mod Works
pub mod Woven
