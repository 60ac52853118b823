pub mod Leads
pub mod Turns
pub mod Pending
pub mod Acts
pub mod Clearing
