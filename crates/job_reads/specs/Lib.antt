pub mod Reads
pub mod Backs
