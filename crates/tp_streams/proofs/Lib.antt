pub mod Coming
pub mod Sought
pub mod Handed
pub mod Steps
pub mod Reading
pub mod Admission
