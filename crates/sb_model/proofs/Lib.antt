-- The laws that the calls cite.
mod Passing
mod LabelsOfPoints
mod FirstThatPasses
mod FirstReadings
mod ReadingsFit
mod FoundByNumber
mod NumbersInOrder
mod TurnsInCode
mod LinesOfSides
mod PointsOfPatches
mod FacingsOfEdges
mod EdgesOfSides
-- and what the ranges are
mod ExampleRanges
