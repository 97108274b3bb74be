pub mod Shown
pub mod Passage
