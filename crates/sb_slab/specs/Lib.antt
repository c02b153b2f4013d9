-- What the crate promises, in reading order.
pub mod Slabs
-- what its steps promise
pub mod Reaching
pub mod Table
pub mod Sorted
