pub mod Texts
pub mod Trees
pub mod Marked
pub mod Listed
pub mod Crossed
