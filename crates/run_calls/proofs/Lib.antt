pub mod Failing
pub mod Acts
pub mod Lists
pub mod Turns
pub mod Own
pub mod Halting
pub mod Knowing
pub mod Reading
