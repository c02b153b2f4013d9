-- Loops that are handed in in any order.
pub mod SameLoop
pub mod TwoDropsMeet
pub mod AnyOrder
pub mod LeftInAnyOrder
pub mod ApartFromAny
