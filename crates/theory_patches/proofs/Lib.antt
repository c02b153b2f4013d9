-- The laws by topic, in the order of the proof of the law of patches.

-- what a list marks at a point, patch by patch
pub mod MarkedAt
-- marks and trimmed do not see the order of a list
pub mod TrimmedInAnyOrder
-- intervals without a number of a list
pub mod NoneBetween
-- intervals of one line: one of them covers what all cover
pub mod OneLine
-- two patches of a trimmed list
pub mod Spaced
-- the same points under the same marks
pub mod SamePoints
-- one line u = constant
pub mod CutLine
-- the same two sides over each stretch
pub mod SameLines
-- two patches of one list with the same sides
pub mod OneIfTouching
-- patches of the other list are at least as long
pub mod AsLong
-- no patch twice
pub mod StandsOnce
-- the law itself
pub mod OneList
mod Examples
mod CutInTwo
