-- The laws that the calls cite.
mod Ranges
mod Passing
mod Meetings
mod SidesOfPoints
mod FractionsInOrder
mod LinesByGaps
mod GapsTurnedAlong
mod AmidTheEnds
mod OrderAtHolds
mod LineOfEdge
-- and what the ranges are
mod Examples
mod ExampleEdges
