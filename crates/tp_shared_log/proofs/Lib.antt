pub mod Added
pub mod Fronts
pub mod Keeping
pub mod Placed
pub mod Telling
