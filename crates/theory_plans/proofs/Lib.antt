-- The laws by topic.

-- edges, and points on them
pub mod Edges
-- points
pub mod PointsAlike
-- which loops are plans
pub mod RaysToTheRight
pub mod ConvexIsPlan
pub mod TouchingEdges
pub mod CommonPointIsCorner
-- rectangles
pub mod RectangleIsPlan
pub mod InsideRectangle
mod Examples
mod ExamplePlans
-- the points of a plan
pub mod LoopsInRange
