pub mod Drives
pub mod Keeping
pub mod Turns
pub mod Lines
pub mod Calls
pub mod Passing
pub mod Apart
