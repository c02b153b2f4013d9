-- What is said of loops that are moved as a whole, in reading order.
pub mod Shifts
pub mod Laws
