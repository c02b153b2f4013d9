-- What is said of loops that are handed in, in reading order.
pub mod Normal
pub mod Answers
pub mod Orders
pub mod Laws
