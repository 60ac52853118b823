pub mod Reads
pub mod Whole
pub mod Listed
