-- What the rows rest on.
mod Wholes
