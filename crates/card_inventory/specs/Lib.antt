pub mod Listed
pub mod Card
