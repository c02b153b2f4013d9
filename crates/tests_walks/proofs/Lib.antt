-- Worked rows of walks.

pub mod LayeredWallBetweenRooms
