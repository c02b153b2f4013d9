-- What the crate promises, in reading order.
pub mod Network
pub mod Directions
-- what its steps promise
pub mod Owners
pub mod Crossings
pub mod Found
pub mod Through
pub mod Rising
pub mod Abscissae
