pub mod Touches
pub mod TouchedMoves
pub mod TouchedEntry
pub mod Talks
pub mod Handshakes
pub mod Due
