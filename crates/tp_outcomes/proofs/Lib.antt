pub mod Shown
pub mod GoingOn
pub mod Staying
pub mod Starting
pub mod TreesListed
pub mod CountedThere
pub mod TreesAgree
