-- The laws by topic.

-- slabs, and which edges span one
pub mod NeighboursInAList
pub mod EdgesOverASlab
-- where lines meet
pub mod LinesMeetAtCrossings
-- the order of two
pub mod OneLiesBelow
-- the order of a slab
pub mod SlabOrderIsOne
pub mod SortedByLeads
pub mod SortedByValues
pub mod OddBelowAPoint
mod Examples
