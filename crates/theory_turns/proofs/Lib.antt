-- The laws by topic.
pub mod SignedAxes
pub mod AreasOfMixtures
pub mod UprightTriples
pub mod TurnsCompose
mod Examples
