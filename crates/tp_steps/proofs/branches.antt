pub mod Undone
pub mod Heeding
pub mod Outspoken
pub mod Rolls
pub mod Rowed
pub mod Branched
pub mod Staged
