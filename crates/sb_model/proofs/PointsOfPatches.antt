-- Corners of patches, and the points in them.
pub mod CornersFit
pub mod EndsOfPatches
pub mod PointsInPatches
