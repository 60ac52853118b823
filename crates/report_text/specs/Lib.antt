pub mod Fields
pub mod Groups
pub mod Line
pub mod Losses
pub mod Refusals
pub mod Run
pub mod Shown
