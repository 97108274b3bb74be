pub mod Parts
pub mod Quiet
pub mod Tested
pub mod Testing
pub mod Whole
