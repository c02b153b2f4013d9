-- The gaps of points, and what stands in them.
pub mod GapsOfPoints
pub mod ThroughGaps
pub mod RealGaps
pub mod OverlapInGaps
