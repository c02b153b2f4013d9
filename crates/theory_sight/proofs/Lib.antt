-- The laws by topic.

-- labels of what stands on a line
pub mod LowestBetween
pub mod Stacked
-- items of a crossing
pub mod Crossings
-- the walk as it is read
pub mod WalkIsRead
pub mod ReadsNoFurther
-- the way back
pub mod ItemsReversed
pub mod ReadBack
-- worked walks
mod Examples
-- passages from a column
pub mod Stretched
pub mod LayersAlongARay
pub mod PassagesFromColumn
