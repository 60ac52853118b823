pub mod Folders
pub mod Silent
pub mod Sayable
pub mod Numbers
pub mod Ordered
pub mod Whole
