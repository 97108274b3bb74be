pub mod Arcs
pub mod SharedArcs
pub mod Outs
pub mod Kept
pub mod Changes
pub mod KeptTable
pub mod ArcStep
pub mod Directory
