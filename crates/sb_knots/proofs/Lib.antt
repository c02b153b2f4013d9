pub mod NumbersFit
pub mod PassingNumbers
pub mod IdsOfEdges
pub mod EditsOfIds
pub mod BegunEdges
pub mod CornersInOrder
pub mod BegunInOrder
pub mod JointsOfLists
pub mod StepIsRight
pub mod SenseIsRight
pub mod AllIsReached
pub mod ListingIsMade
pub mod FirstCorners
mod Examples
