-- What stands at a point.
pub mod LabelsFound
pub mod LayersByBands
pub mod BandsFit
