-- The IFC text: identifiers, points and directions in a space's own frame, single lines, those of one
-- boundary with their numbers, and the text, in reading order. `Steps` is what private calls promise.
pub mod Guids
pub mod InTheSpace
pub mod Lines
pub mod Numbers
pub mod BoundaryLines
pub mod IfcText
pub mod Steps
