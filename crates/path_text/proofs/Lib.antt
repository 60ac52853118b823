pub mod PlaceLemmas
pub mod Texts
pub mod Calendar
pub mod Moments
pub mod Ancestors
pub mod Labels
pub mod Storage
pub mod ListNames
