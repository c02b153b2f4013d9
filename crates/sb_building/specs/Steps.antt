-- What the private functions promise.
pub mod Least
pub mod Order
pub mod Standing
pub mod Shaping
pub mod Given
pub mod Layers
pub mod Parts
pub mod Materials
