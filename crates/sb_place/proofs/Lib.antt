-- The proofs by topic.
mod ViewsAreSeen
mod TurnsStandUpright
mod ShiftsFit
mod NearestIsRead
mod ChainsAreJudged
mod OneChain
mod Examples
