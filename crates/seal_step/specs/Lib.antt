pub mod Parts
pub mod Reading
pub mod Comparing
pub mod Calls
pub mod Sealing
