pub mod Placed
pub mod Parts
pub mod Grown
pub mod Taken
pub mod Lanes
pub mod Most
