-- The laws by topic.

-- points of a prism lie strictly within its extent
pub mod WithinExtents
-- rays and their borders
pub mod Rays
-- edges over a number that is no abscissa
pub mod EdgesAtANumber
-- rows and heights for any ray
pub mod RowsThatRise
-- one walk each
pub mod OneWalkEach
-- rows over the numbers of a slab
pub mod RowsOfSlabs
-- outward from a side
pub mod PartedAtALine
pub mod OutwardFromSides
-- the gap of a point
pub mod Gaps
-- slabs and orders of worked models
pub mod OrdersByTests
-- worked cases
pub mod Examples
pub mod ExamplesUpAndDown
