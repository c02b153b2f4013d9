-- What the private functions promise.
pub mod Kinds
pub mod Sights
pub mod Counting
pub mod Links
pub mod Shapes
pub mod Chains
pub mod Found
pub mod Survey
pub mod Read
