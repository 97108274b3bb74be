mod Lives
mod Rows
mod Steps
mod Left
pub mod Alike
pub mod Runs
