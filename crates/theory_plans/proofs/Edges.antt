-- Edges, and points on them.
pub mod EdgesByPlace
pub mod DirectionsAlongAxes
pub mod EdgesOfPlans
pub mod StepsOfEdges
pub mod OriginOnSegment
pub mod OnEdgesAlongAxes
