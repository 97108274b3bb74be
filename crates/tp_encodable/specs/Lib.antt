pub mod Texts
pub mod Sizes
pub mod Begins
pub mod Standing
