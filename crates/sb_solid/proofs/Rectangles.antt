-- Loops that are one rectangle, and boxes over it.
pub mod Mirrored
pub mod RectanglesArePlans
pub mod OnlyRectangles
pub mod BoxesOverRectangles
