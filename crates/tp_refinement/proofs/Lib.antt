pub mod Nodes
pub mod Parts
pub mod Around
pub mod Entry
pub mod Happens
pub mod Speaks
pub mod Deployed
