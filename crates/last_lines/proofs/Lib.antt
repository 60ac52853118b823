pub mod Said
pub mod Ends
