pub mod Readings
pub mod Opening
pub mod Output
pub mod Findings
pub mod Showing
pub mod Shortening
