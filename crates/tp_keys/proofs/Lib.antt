pub mod Writing
pub mod Refusing
