pub mod Safe
pub mod Calls
pub mod Lines
pub mod Worlds
pub mod Staying
