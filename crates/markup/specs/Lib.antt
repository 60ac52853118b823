pub mod Characters
pub mod Piece
pub mod Mark
pub mod Taking
pub mod Token
