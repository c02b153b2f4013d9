-- What the laws speak of, in reading order.
pub mod Below
pub mod Halves
pub mod RegionsAlong
pub mod Sides
pub mod Laws
pub mod SideLaws
