pub mod State
pub mod Copies
pub mod Acts
pub mod Turn
pub mod Rules
pub mod Runs
pub mod Calls
pub mod Apart
