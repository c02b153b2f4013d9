-- Points of a face, plain and on its sides.

-- plain points lie on no side
pub mod PlainOffSides
-- points of sides
pub mod PointsOfSides
-- plain is off the cuts
pub mod PlainOffCuts
