pub mod Turned
pub mod Attaching
