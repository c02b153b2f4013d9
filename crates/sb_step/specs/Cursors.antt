-- What a cursor over parameters stands before, how it passes over one, and which form the next one has.
pub mod Cursor
pub mod Passing
pub mod Forms
