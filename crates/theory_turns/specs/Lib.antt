-- Turns of space by quarters.
pub mod Turns
