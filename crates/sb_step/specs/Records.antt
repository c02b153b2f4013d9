-- Where the records of a file stand, and which of them is its schema.
pub mod Spans
pub mod Schema
pub mod SchemaReading
pub mod Table
pub mod Rows
