pub mod Told
pub mod Histories
pub mod Going
pub mod Meaning
pub mod Declared
