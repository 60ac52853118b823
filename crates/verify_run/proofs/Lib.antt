pub mod Hashing
pub mod Stops
pub mod Lines
pub mod Checks
pub mod Others
pub mod Reported
pub mod Sights
pub mod Loads
