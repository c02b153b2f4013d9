-- Lemmas, each file a claim.
mod CharactersOfMore
mod Examples
mod NamedInModel
mod NoFloats
mod OneMoreEntry
mod Passing
