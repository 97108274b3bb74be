pub mod TreeSummary
pub mod TreeKey
pub mod TreeSummaries
pub mod Waiting
pub mod FrameRecord
pub mod Frames
pub mod Nodes
pub mod TreeOutcomes
