pub mod Begins
pub mod Passages
pub mod Rare
pub mod Tells
pub mod Spoken
pub mod Leaving
