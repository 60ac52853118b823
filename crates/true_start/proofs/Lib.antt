pub mod Known
pub mod Starting
pub mod Offloads
pub mod OfCard
pub mod Sounding
pub mod Stopping
pub mod Passed
