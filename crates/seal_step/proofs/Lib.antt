pub mod Texts
pub mod Drafts
pub mod Compares
pub mod Drafted
pub mod Seals
pub mod Crashes
