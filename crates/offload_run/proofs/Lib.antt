pub mod Places
pub mod Acting
pub mod Slots
pub mod Nearing
pub mod Counting
pub mod Starting
pub mod Lasting
