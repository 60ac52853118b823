pub mod Files
pub mod Tree
pub mod State
pub mod Failing
pub mod Kept
pub mod Inside
pub mod Image
