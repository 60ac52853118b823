pub mod Told
pub mod Calls
pub mod Places
pub mod Fails
