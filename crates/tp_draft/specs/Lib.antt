pub mod Draft
pub mod Begins
pub mod Passage
pub mod Talk
pub mod Calls
pub mod Taking
pub mod Replies
pub mod Answers
