-- What is kept of placements and of material instances.
pub mod MaterialsAreRead
pub mod LayersOneByOne
pub mod MadeOnce
pub mod FramesAreKnown
