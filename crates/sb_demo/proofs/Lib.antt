pub mod Ranges
pub mod PartsInOrder
