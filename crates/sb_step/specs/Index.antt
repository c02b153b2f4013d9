-- What the private functions of `index` promise.
pub mod Ways
pub mod SectionMoves
pub mod ListMoves
pub mod Turns
pub mod Machines
pub mod StoredInstances
pub mod Collects
pub mod Progress
