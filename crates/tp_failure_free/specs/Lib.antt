pub mod Drained
pub mod DrainedWorlds
pub mod DrainedTrees
