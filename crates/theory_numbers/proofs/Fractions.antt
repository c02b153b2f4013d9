-- Rational numbers, and fractions in lowest terms.
pub mod Rationals
pub mod Clear
pub mod Soon
pub mod Avoid
pub mod Reduced
pub mod GreatestDivisor
pub mod LowestTerms
