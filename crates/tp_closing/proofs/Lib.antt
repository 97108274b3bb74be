pub mod Woven
pub mod Listed
pub mod EveryRun
pub mod SeenTo
pub mod Turned
pub mod Placed
pub mod Lines
