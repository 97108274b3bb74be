mod Prefixes
mod Pending
mod Cuts
mod Texts
mod Ended
mod Left
pub mod SoFar
pub mod Ending
mod Alone
pub mod Limits
mod Tried
pub mod One
pub mod CertainStores
