pub mod Starts
pub mod Stops
pub mod Sound
