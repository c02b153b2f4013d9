-- What the laws speak of, in reading order.
pub mod Sets
pub mod Insides
