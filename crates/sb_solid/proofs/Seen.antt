-- Loops in whole millimetres from their anchors, as they are seen from one side.
pub mod SeenPoints
pub mod EndsSeen
pub mod BasesSeen
