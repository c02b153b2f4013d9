-- What a sheet and a trimmed list of marked patches are, and the law, in reading order.
pub mod Marked
pub mod Sheets
pub mod Trimmed
pub mod Laws
