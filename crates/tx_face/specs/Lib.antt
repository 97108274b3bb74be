pub mod Stands
pub mod Codes
pub mod Face
