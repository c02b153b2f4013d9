-- From one point to another.
pub mod Heights
pub mod Moves
pub mod StayNear
pub mod Across
