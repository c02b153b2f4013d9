-- The laws by topic.

-- numbers, edges and abscissae
pub mod NumbersApart
pub mod EdgesOfProducts
pub mod AbscissaeListed
-- points
pub mod LabelsAlike
pub mod RaysAlike
-- rays
pub mod PassagesOfRays
-- patches and lists
pub mod PatchesBetweenLevels
pub mod BoundariesById
-- solids
pub mod BoxesAreSolid
pub mod SpacesByFields
-- worked models
pub mod ExampleModels
mod ExampleLabels
mod ExampleLists
