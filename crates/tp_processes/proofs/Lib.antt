mod AnyVersion
mod Room
pub mod AsTwo
mod Opening
mod Votes
pub mod Parts
pub mod Chained
pub mod Woven
pub mod Sentences
mod Held
pub mod Said
pub mod Octets
