pub mod Stages
pub mod Sides
pub mod StageTurns
pub mod StageMoves
pub mod TreeLogs
pub mod Forced
pub mod TakenOnce
