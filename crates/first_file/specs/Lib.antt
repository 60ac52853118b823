pub mod Causes
pub mod Copied
pub mod First
pub mod Steps
