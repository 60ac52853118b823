pub mod Leaves
pub mod Grammar
pub mod Faults
pub mod Reading
pub mod Code
