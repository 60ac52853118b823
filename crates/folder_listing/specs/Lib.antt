pub mod Listing
pub mod Tree
