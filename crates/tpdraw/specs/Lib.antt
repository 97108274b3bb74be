pub mod Transcripts
pub mod NodeLists
pub mod Asked
pub mod Status
pub mod Runs
