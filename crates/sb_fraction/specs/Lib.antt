-- What is said of points, edges and fractions, in reading order.
pub mod Plane
pub mod Spots
pub mod Edges
pub mod Crossings
pub mod Directions
pub mod Numbers
pub mod Bounds
pub mod Meetings
pub mod Lines
pub mod Orders
pub mod Steps
