mod Vocabulary
mod OneNumber
mod Logged
mod NextRecord
pub mod Places
mod Tells
pub mod EveryLog
pub mod NextStart
mod Votes
mod Openings
pub mod StaysInOrder
pub mod Lives
