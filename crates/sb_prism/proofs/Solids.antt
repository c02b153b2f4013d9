-- Solids, and the shapes that hold them.
pub mod SolidsAreRead
pub mod ShapesAreRead
pub mod BodiesAreRead
