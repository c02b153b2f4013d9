-- The laws by topic.

-- the tests of marks tell equal ones
pub mod MarksTold
-- what holds of chains of runs
pub mod ChainsKeep
-- chains in order have no seam
pub mod NoSeamInOrder
-- the strips of one face
pub mod ByFace
-- cells slab by slab
pub mod Slabs
-- their chains are trimmed
pub mod ChainsAreTrimmed
-- patches of a model are patches
pub mod PatchesAreRegions
-- points of a face
pub mod Points
-- joinable cells are joined
pub mod JoinedCells
-- a patch of a side from whole numbers
pub mod PatchesOfHeights
-- trimmed on a sheet, and level patches
pub mod SheetsOfFaces
mod Cases
