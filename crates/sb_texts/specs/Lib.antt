pub mod Begun
pub mod Numerals
pub mod Pieces
