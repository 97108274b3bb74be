pub mod Told
pub mod Members
pub mod Answers
pub mod Standing
pub mod Running
pub mod DrivenWorld
