pub mod Memberless
pub mod Played
pub mod Expanded
pub mod LineRuns
