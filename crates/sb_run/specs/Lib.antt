-- What contracts of this crate cite, in reading order.
pub mod Command
pub mod Statuses
pub mod Promises
pub mod Messages
pub mod Judgements
