pub mod Words
pub mod Logs
pub mod Keys
pub mod Sites
pub mod Faces
pub mod Auditing
pub mod Commands
