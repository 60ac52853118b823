pub mod Reads
pub mod Ring
pub mod Standing
pub mod Copying
pub mod Turning
pub mod Passed
pub mod Keeping
pub mod Follows
