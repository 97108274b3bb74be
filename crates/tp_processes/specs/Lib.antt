pub mod Versions
pub mod Processes
pub mod Deployed
pub mod Octets
