-- In reading order.
pub mod Decimals
pub mod Rounding
pub mod Lengths
pub mod Printed
pub mod Tokens
pub mod Steps
