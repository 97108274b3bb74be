pub mod HasWord
mod Parts
pub mod OutCut
pub mod OutForms
pub mod OutNumbers
pub mod OutBack
pub mod OutLinesBack
pub mod OutGood
pub mod OutSaid
