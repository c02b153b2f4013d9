-- The outlines of profiles.
pub mod OutlinesAreRead
pub mod ContoursAreRead
pub mod IndicesAreRead
pub mod PointsArePicked
pub mod ProfilesAreFlat
