pub mod Listings
pub mod Cards
pub mod Members
pub mod Arrangements
pub mod Building
pub mod OneAnswer
pub mod OneInventory
