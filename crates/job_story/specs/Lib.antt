pub mod Attaching
pub mod Ends
pub mod Story
pub mod Run
pub mod Plans
