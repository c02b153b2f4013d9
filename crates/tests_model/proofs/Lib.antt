-- What the rows rest on.
mod AllPushed
mod TriedPatches
