-- What is shown of the crate.
mod SharedGaps
mod StepsOfSharing
mod LeastPairs
mod CellsOfGaps
mod Ranges
mod EdgesBeside
mod SpacesFound
mod SortedOnce
mod WalksRead
mod TurnedNumbers
mod PositionsCounted
mod Examples
