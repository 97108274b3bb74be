pub mod Row
pub mod RowList
pub mod Branch
pub mod Rules
pub mod Disposition
pub mod Standing
pub mod Waiting
