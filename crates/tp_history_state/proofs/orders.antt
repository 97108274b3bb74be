pub mod Told
pub mod Owes
pub mod OwnTurns
pub mod OwnMoves
pub mod Own
pub mod Faced
pub mod Rolled
pub mod OverTold
