pub mod Back
pub mod Feeding
