pub mod Fair
pub mod Leaves
pub mod FairTurns
pub mod TurnWords
pub mod Hushed
pub mod HeardTurned
pub mod Heard
pub mod Treed
