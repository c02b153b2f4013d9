-- Plane vectors.
pub mod Arrows
pub mod ThreeTerms
pub mod Lengths
