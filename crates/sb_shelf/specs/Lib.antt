-- What contracts of this crate cite, in reading order.
pub mod World
pub mod Calls
pub mod WholeTexts
pub mod Counting
pub mod Input
pub mod Memory
pub mod Steady
pub mod Host
pub mod Places
