pub mod Stores
pub mod Served
pub mod StoreTrials
