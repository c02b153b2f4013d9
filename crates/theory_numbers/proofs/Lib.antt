-- The laws by topic: first whole numbers, then plane vectors, then rational numbers.

-- how to close a polynomial identity
pub mod Shapes
-- sums and products
pub mod Ring
-- tests of order, and cases on a sign
pub mod Signs
-- signs of products; scaling an inequality
pub mod Products
-- tests of numbers and of their positive multiples
pub mod Multiples
-- cross and inner products of sums, multiples and mirror images
pub mod Vectors
-- signs as Boolean variables
pub mod SignTables
-- order, mediant, a form between two numbers, its one zero
pub mod Fractions
-- Euclid's remainders, and fractions in lowest terms
mod Examples
