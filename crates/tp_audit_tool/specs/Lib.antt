pub mod Frames
pub mod AuditTranscript
pub mod Hearing
pub mod Adding
pub mod Audited
