-- The proofs by topic.
mod FaultsAreJoined
mod EachIsRead
mod Outlines
mod Solids
mod SignsOfLengths
mod SoundShapes
mod ShiftsAreFramed
mod TurnedAcross
mod TurnedFirst
mod NumbersFit
mod ShapesAreJudged
mod Examples
