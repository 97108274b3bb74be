pub mod Risen
pub mod SpeaksUp
pub mod Answerable
