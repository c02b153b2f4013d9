-- Whole regions.
pub mod NearALine
pub mod NoEdgeInside
pub mod AwayFromCorners
pub mod PointOfAnEdge
pub mod OneEdgeThroughAPoint
pub mod InsideThroughout
pub mod RegionIsFourHalves
