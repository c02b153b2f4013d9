-- Where edges cross, and all crossings of edges.
pub mod EdgesCross
pub mod BetweenEnds
pub mod ApartAlongX
pub mod PairsOfEdges
pub mod PointsOnce
pub mod PutInOrder
pub mod StepsOfFinding
pub mod NetworkFound
pub mod PlacesThrough
pub mod WholeNumberBelow
pub mod InsideIsBeside
