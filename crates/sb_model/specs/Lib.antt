-- What is true of models, points, walks, patches and lists of boundaries, in reading order.
pub mod Frames
pub mod Solids
pub mod Surfaces
pub mod Building
pub mod Numbering
pub mod Labels
pub mod Bands
pub mod PlanEdges
pub mod Passages
pub mod Walks
-- what is true of lists of boundaries
pub mod ListOfModel
pub mod Boundaries
