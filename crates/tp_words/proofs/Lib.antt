pub mod PlainWords
pub mod PlainWalk
pub mod Numbers
pub mod Reading
pub mod DriveWalk
pub mod Drives
