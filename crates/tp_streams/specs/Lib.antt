pub mod Stops
pub mod Written
pub mod Taken
pub mod Events
pub mod Feeds
pub mod Said
pub mod Admitted
