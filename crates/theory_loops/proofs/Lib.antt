-- The laws by topic.

-- three points on one line
pub mod DropPoint
pub mod OuterIsCovered
-- closed loops
pub mod DropsKeep
pub mod NothingLeftToDrop
pub mod LeastFirst
pub mod NormalIsLoop
-- plans
pub mod SamePlan
pub mod PlanComesOut
pub mod PlansStay
-- any order
pub mod Orders
-- touching
pub mod TouchingHavePoint
pub mod ApartInWords
mod Examples
