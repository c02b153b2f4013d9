pub mod StringsByRuns
pub mod CommentsClose
pub mod StringsEnd
pub mod GapsAgree
pub mod FoundIsLongest
pub mod OneAnswer
pub mod TokensHaveBytes
pub mod OneListOfTokens
mod Examples
