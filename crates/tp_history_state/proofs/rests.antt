pub mod Rests
pub mod Foreign
