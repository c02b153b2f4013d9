-- The report: how its parts are written, an entry, and the whole text, in reading order.
pub mod Strings
pub mod Entries
pub mod Report
