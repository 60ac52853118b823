pub mod Asked
pub mod Attached
pub mod Ending
pub mod Turning
