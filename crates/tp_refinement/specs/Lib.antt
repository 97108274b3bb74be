pub mod Refinement
pub mod Deployed
