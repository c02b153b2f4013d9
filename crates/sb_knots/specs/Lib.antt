-- What is said here beside the definitions of plans.
pub mod Steps
pub mod Listing
