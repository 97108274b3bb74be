pub mod Kinds
pub mod Dialogue
