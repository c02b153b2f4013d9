-- In reading order.
pub mod Entities
pub mod Contents
pub mod Lowest
pub mod Products
pub mod Materials
pub mod Following
pub mod Units
pub mod Defects
pub mod First
pub mod Verdicts
-- what the private functions promise
pub mod Steps
