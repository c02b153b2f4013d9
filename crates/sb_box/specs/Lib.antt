-- What contracts of this crate cite, in reading order.
pub mod Extents
pub mod BoxList
pub mod BoxModel
