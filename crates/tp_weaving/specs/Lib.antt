pub mod Letters
pub mod Places
pub mod Frames
pub mod Said
pub mod Parts
pub mod Steps
pub mod Weaving
