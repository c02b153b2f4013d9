-- What the laws speak of, in reading order.
pub mod Sheets
pub mod Strips
pub mod Chains
pub mod Joinable
pub mod Laws
