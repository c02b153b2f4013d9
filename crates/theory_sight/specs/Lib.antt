-- What the laws speak of, in reading order.
pub mod Coarse
pub mod Bands
pub mod Reading
pub mod Crossings
