-- The axis of an element's layers, and the items of a crossing, in reading order.
pub mod Axes
pub mod Longest
pub mod Parts
pub mod InWalks
