pub mod Outside
pub mod Windows
