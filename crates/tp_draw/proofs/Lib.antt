pub mod Shaped
pub mod FirstEnds
pub mod Banded
pub mod OneLane
pub mod LeftLines
pub mod ChosenLanes
pub mod Escaping
