-- What the laws speak of, in reading order.
pub mod Sides
pub mod Leads
pub mod Points
pub mod Regions
