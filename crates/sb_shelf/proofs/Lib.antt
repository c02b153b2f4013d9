-- Lemmas, each file a claim.
pub mod CallsCompose
mod PiecesJoin
mod PiecesAppend
mod Examples
