pub mod Placing
pub mod Said
pub mod Playing
pub mod Endings
pub mod Recording
pub mod Verdicts
