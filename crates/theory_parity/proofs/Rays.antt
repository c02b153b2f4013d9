-- Rays from a point, and the edges that they meet.
pub mod ClosedChains
pub mod AnyRay
pub mod InsideByBelow
pub mod BelowByValue
pub mod BelowFlips
