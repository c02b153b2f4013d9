-- Walks as they are read.
pub mod ReadAlong
pub mod LabelsOfPresent
pub mod WalksAreRead
