-- What is said here beside the definitions of loops, in reading order.
pub mod Ways
pub mod Answers
