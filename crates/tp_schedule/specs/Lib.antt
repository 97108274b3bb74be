pub mod Answers
pub mod Keywords
pub mod HasText
pub mod AtHand
pub mod LinesLeft
pub mod LineCut
