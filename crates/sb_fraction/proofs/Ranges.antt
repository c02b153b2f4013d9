-- Numbers that fit their types.
pub mod ReducedInBounds
pub mod ProductsFit
pub mod CoordinatesFit
pub mod ShortVectors
