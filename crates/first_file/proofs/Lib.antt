pub mod Telling
pub mod Saying
pub mod Turning
pub mod Causing
pub mod Parting
pub mod Recording
pub mod Offloading
