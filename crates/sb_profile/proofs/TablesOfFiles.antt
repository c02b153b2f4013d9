-- What is read of a file once, in tables.
pub mod ViewsAreSights
pub mod KindsAreSorted
pub mod UnitsAreCounted
pub mod LinksAreNoted
pub mod OneByKeyword
pub mod TablesAreRead
pub mod RelationsGive
