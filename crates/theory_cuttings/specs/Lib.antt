-- What a cutting of a line is, what is done with cuttings, and the laws, in reading order.
pub mod Ends
pub mod Cuttings
pub mod Changes
pub mod Columns
pub mod Passages
pub mod Laws
