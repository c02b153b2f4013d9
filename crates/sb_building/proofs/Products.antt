-- Taken products that are judged, one after another.
pub mod StandingOneByOne
pub mod ShapingOneByOne
pub mod BadLayersOneByOne
