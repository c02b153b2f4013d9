-- The products of a model in order, and their edges.
pub mod LeastComesFirst
pub mod TakenFirst
pub mod ReadInOrder
