-- The law, step by step.

-- a walk that ends at a space has passed what lies between
pub mod WalksToSpaces
-- labels seen from the other end
pub mod SeenFromBehind
-- the way back over what was passed
pub mod WalkedBack
-- spaces on a ray
pub mod RaysOfFaces
-- opposite vectors
pub mod StepsOpposed
-- there and back
pub mod TheLaw
-- and on which sides they arrive
pub mod ArrivalsOnSides
-- the law
pub mod ReversedWalks
-- u and v on both faces
pub mod SamePlaces
-- worked cases
pub mod ModelsApart
pub mod Examples
mod ExamplesToItself
mod ExamplesOfFloors
