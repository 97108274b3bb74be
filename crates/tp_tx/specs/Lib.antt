pub mod Frames
pub mod Said
pub mod Admitted
pub mod Transcript
pub mod Progress
pub mod Running
pub mod Transacting
