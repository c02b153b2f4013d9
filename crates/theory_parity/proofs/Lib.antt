-- The laws by topic.

-- rays
pub mod Rays
-- from one point to another
pub mod FromPointToPoint
-- whole regions
pub mod Regions
-- lines without a corner
pub mod OnLineOver
pub mod InsideByValues
-- the solid on the left
pub mod SolidOnTheLeft
mod Examples
mod ExampleSides
