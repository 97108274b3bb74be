pub mod BranchMark
pub mod Marked
pub mod Taken
pub mod Ends
pub mod Replied
pub mod Unended
pub mod Ended
pub mod AllMarks
