pub mod Doubts
pub mod Beginnings
