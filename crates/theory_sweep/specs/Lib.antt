-- What is said of a line that passes over loops, in reading order.
pub mod Passing
pub mod Corners
pub mod Open
pub mod Laws
