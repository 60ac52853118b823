pub mod Places
pub mod Path
pub mod Moment
pub mod Kinds
pub mod Label
pub mod Stored
pub mod ListName
