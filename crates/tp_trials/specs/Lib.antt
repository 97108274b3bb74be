pub mod KnownTrials
pub mod Trials
pub mod DrainedTrials
pub mod DrainedNodeTrials
pub mod TroubledTrials
pub mod ArcTrials
pub mod SiteLogTrials
