pub mod OutHasText
pub mod OutKinds
pub mod OutWords
pub mod OutReading
