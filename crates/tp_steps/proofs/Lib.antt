pub mod log
pub mod words
pub mod every
pub mod links
pub mod upward
pub mod lemmas
pub mod order
pub mod branches
