-- What the answers cite.

-- whole numbers as fractions
pub mod Wholes
