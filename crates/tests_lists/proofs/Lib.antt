-- What the rows rest on.
mod Wholes
mod TriedPatches
mod FoundIfThere
