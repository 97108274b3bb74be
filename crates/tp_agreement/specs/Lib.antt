pub mod Hanging
pub mod Logs
pub mod Owing
