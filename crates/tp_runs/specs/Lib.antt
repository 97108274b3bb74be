pub mod Breaks
pub mod Bare
pub mod Framed
pub mod Hanging
pub mod Heeded
pub mod Known
pub mod RolledSeen
