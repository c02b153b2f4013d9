-- Numbers that fit their types.
pub mod HeightsFit
pub mod OffsetsFit
pub mod LinesOfEdges
pub mod PointsBetween
