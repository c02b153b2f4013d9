-- What the writer keeps while it goes over a list.
pub mod Tables
pub mod Names
pub mod Uses
pub mod Surfaces
