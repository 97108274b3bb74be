pub mod Faces
pub mod Audits
pub mod Stores
