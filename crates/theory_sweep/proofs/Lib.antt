-- The laws by topic.

-- edges over a place of the line
pub mod PointsOfRisingEdges
-- the order of edges
pub mod NeighboursInOrder
pub mod OrderIsKept
-- corners
pub mod EdgesByCorners
pub mod EdgesAtACorner
-- the line passes a corner
pub mod ValuesAtACorner
pub mod OverACorner
-- the line has passed all
pub mod ApartWhenPassed
-- points in range
pub mod PassedInOrder
-- the side of the solid
pub mod PassingItems
pub mod SenseByRank
mod Examples
