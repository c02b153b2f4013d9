-- Fine cells over gaps, and the order in which they are listed.
pub mod FineCellsHavePoints
pub mod StripsOfGaps
pub mod CellsListed
pub mod CellsInGaps
