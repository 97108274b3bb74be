pub mod Unsaid
pub mod Proper
pub mod Pending
pub mod Closed
pub mod Told
