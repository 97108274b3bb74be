pub mod Numbers
pub mod Fronts
pub mod Streams
pub mod Splits
pub mod Handing
