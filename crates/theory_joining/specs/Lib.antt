-- What runs, joined lists and the step from slab to slab are, and the laws, in reading order.
pub mod Runs
pub mod Joined
pub mod Put
pub mod Cells
pub mod Slabs
pub mod Laws
