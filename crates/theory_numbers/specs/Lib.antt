-- What the laws speak of, in reading order.
pub mod Tests
pub mod Arrows
pub mod Rationals
pub mod Intervals
pub mod Reduced
pub mod Divisors
pub mod Fractions
