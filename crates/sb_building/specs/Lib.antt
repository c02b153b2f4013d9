-- In reading order.
pub mod Placings
pub mod Frames
pub mod Layerings
pub mod Conditions
pub mod Models
pub mod Laws
-- what the private functions promise
pub mod Steps
