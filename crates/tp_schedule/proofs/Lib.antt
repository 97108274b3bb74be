pub mod lemmas
mod HasWord
pub mod Values
pub mod LineForms
pub mod LinesBack
pub mod LineCuts
pub mod Buffers
pub mod LineSought
pub mod LineSkipped
pub mod LineHanded
