-- The laws by topic.

-- which side is higher, and the order of sides at one place
pub mod Clearance
-- which line is higher just after a number, and until two lines meet
pub mod LeadsIsAnOrder
pub mod LeadsUntilMeeting
-- one line is one record
pub mod SameSide
-- points above, under and on a side; inner points
pub mod Points
-- where the sides of a region meet
pub mod Regions
-- common points of closures
pub mod Closures
mod Examples
