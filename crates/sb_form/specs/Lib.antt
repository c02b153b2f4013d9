-- What contracts of this crate cite, in reading order.
pub mod Numbers
pub mod FirstForm
pub mod Meaning
pub mod ThreeNumbers
pub mod AsText
