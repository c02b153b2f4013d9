-- What was found is collected, and the answer is the one of the input.
pub mod BracketsAreBits
pub mod EventsAreCollected
pub mod ReadingGoesOn
pub mod FilesAreHeld
pub mod OneAnswerToAnInput
