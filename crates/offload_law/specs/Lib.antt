pub mod Sealing
pub mod Stages
pub mod Lines
pub mod Steps
pub mod InPlace
pub mod Runs
pub mod Clear
