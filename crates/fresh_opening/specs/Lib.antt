pub mod Causes
pub mod Sights
pub mod Refusals
pub mod Looks
pub mod Orders
pub mod Openings
