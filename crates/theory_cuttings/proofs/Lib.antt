-- The laws by topic.

-- numbers between two ends; reduced fractions; the mirror at 0
pub mod Ends
-- two reduced cuttings of one function are equal
pub mod OneCutting
-- needless breaks dropped
pub mod NeedlessBreaks
-- labels mapped, and grouped into runs
pub mod Groups
-- a cutting read backwards
pub mod Backwards
-- two cuttings glued, and a part cut off
pub mod Parts
-- the passages of a ray
pub mod OnePassages
mod Examples
-- the column of the sorted values
pub mod Columns
-- pieces that are cut themselves
pub mod Refined
-- a cutting seen from another whole number
pub mod Moved
-- a function that is cut, and the coarse one after it
pub mod CutTwice
