pub mod Drops
pub mod Complete
