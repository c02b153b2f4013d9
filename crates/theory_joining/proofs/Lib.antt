-- The laws by topic.

-- a run and the patch that it goes on with
pub mod GoesOn
-- what runs add to the marks of a list
pub mod MarksOfPut
-- the list stays spaced
pub mod PutIsSpaced
-- what a put does, patch by patch
pub mod PutByKey
-- the step from the beginning of a slab to its end
pub mod JoinedOn
-- what is before a number, and nothing else
pub mod MarksBefore
-- the end: spaced is trimmed
pub mod JoinedIsTrimmed
-- and one list
pub mod JoinedIsOne
-- the runs of two stretches of cells
pub mod RunsMerge
-- runs from cells: patches that never touch
pub mod RunsStayApart
-- with the marks of the cells
pub mod RunsKeepMarks
-- so they are the runs of the slab
pub mod RunsOfCells
-- slab after slab, from the first to the last
pub mod JoinOfSlabs
-- worked cases
mod Cases
