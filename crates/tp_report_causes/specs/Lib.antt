pub mod Alarms
pub mod Apart
pub mod Causes
