-- What the joiner keeps, in reading order.
pub mod Stacks
pub mod Sizes
pub mod Taken
pub mod Listing
