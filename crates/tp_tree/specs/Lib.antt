pub mod Tie
pub mod Invocation
pub mod Lends
