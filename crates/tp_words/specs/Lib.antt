pub mod Faults
pub mod CommandLine
pub mod Asked
pub mod Given
pub mod Plain
pub mod DriveLine
pub mod DrivePlain
