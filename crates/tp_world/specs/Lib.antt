pub mod World
pub mod LocalEvents
pub mod Settled
pub mod Halts
pub mod Declares
pub mod Drains
pub mod Stops
