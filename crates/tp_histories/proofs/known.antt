pub mod KnownPlain
pub mod KnownKept
pub mod KnownPhase
