-- What the laws speak of, in reading order.
pub mod Members
pub mod OneOf
pub mod Parted
pub mod Parity
