pub mod First
pub mod Sighted
pub mod Mapped
