pub mod Counting
pub mod Lists
pub mod Prefixes
pub mod Sites
