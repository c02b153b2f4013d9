-- What the bodies rest on.
pub mod NumbersFit
pub mod StackPass
pub mod LoopsLeft
pub mod LoopsTurned
pub mod AnswersAsLeft
