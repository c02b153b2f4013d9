-- What the rows rest on.
mod FourDirections
