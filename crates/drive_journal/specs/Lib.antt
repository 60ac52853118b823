pub mod Record
pub mod Calls
pub mod Steps
pub mod Journal
pub mod Found
pub mod Look
pub mod Reading
pub mod Order
