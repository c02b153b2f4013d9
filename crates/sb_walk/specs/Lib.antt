-- What the crate promises, in reading order.
pub mod Overlaps
pub mod PointsOfCells
pub mod WalksInGaps
-- what its steps promise
pub mod Shared
pub mod GapsBetween
pub mod CellsOfGaps
pub mod Strips
pub mod Appended
pub mod Ways
pub mod Present
pub mod Behind
pub mod Ended
