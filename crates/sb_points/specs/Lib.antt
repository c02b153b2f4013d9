-- How large the numbers of points may be, and what is asked of them.
pub mod Sizes
pub mod Places
