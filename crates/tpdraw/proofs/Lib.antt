pub mod Lines
pub mod Arrived
pub mod ReadOn
pub mod Drawn
