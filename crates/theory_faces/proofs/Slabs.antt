-- Cells slab by slab.

-- fine cells over one slab rise
pub mod CellsRise
-- the runs of the strips of one slab
pub mod RunsOfASlab
-- the runs of slabs that ascend
pub mod SlabAfterSlab
-- joinable cells are strips of slabs that ascend
pub mod JoinableAscends
