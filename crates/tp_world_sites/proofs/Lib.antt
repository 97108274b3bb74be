pub mod Handed
mod Ascending
mod ToldAt
pub mod SiteNames
pub mod SiteLists
mod DiskBytes
mod NotForeign
pub mod Logs
mod Fresh
mod Entries
pub mod Known
pub mod Placed
pub mod Newcomers
pub mod Grown
pub mod Found
pub mod Entered
pub mod Declared
pub mod Turned
mod Again
pub mod Stopping
mod Reopened
pub mod Remaining
mod LeftBy
