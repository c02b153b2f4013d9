-- What is said of lists in blocks, in reading order.
pub mod Blocks
pub mod Places
