-- Directions, and the abscissae of one.
pub mod ReducedSizes
pub mod AbscissaeAre
pub mod AbscissaeFound
pub mod DirectionsAre
