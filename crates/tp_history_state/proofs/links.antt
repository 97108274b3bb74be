pub mod ArcOrder
pub mod Shuts
pub mod Linked
pub mod LinkBy
pub mod GivenUp
pub mod Link
pub mod Kin
pub mod Named
