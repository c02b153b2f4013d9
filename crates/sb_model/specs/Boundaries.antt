-- What is true of lists of boundaries, in reading order.
pub mod Places
pub mod Covers
pub mod Trimmed
pub mod Mirrors
pub mod OpenedPoints
pub mod Nested
pub mod Order
pub mod Sound
