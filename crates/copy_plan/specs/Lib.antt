pub mod Inventory
pub mod Plan
pub mod Fields
pub mod Decoding
pub mod Ancestors
pub mod Build
pub mod Made
pub mod Parts
