pub mod Outside
pub mod Turning
pub mod Naming
pub mod Places
pub mod Once
pub mod Sealing
pub mod Backing
