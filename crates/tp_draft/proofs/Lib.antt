pub mod Drafts
pub mod Beginnings
pub mod Parted
pub mod Turns
pub mod Talks
pub mod Retries
pub mod Calls
pub mod Requests
pub mod Sights
pub mod Replies
pub mod Losses
pub mod Arriving
pub mod Quiet
pub mod Answered
pub mod Members
pub mod SameArcs
mod Recorded
