pub mod Note
pub mod ListText
