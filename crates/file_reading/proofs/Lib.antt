pub mod Stops
pub mod Pieces
pub mod Sizes
pub mod Wholes
pub mod Listings
