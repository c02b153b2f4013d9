-- What the laws speak of, in reading order.
pub mod Gaps
pub mod Borders
pub mod Laws
