pub mod Fed
pub mod HexText
pub mod Triple
pub mod Xxh
