pub mod Control
pub mod Holding
pub mod Leading
