pub mod Words
pub mod Groups
pub mod States
pub mod Vectors
