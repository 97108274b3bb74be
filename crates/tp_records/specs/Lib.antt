pub mod Bodies
pub mod Octets
pub mod Openings
pub mod BodyReading
pub mod BodyScanning
pub mod SentScanning
pub mod WholeScanning
pub mod Answers
