pub mod Own
pub mod Failures
pub mod Ready
