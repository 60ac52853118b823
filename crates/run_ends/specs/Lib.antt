pub mod Reads
pub mod Known
pub mod Losses
pub mod Ends
pub mod Whole
pub mod Renames
