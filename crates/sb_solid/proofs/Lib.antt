-- The proofs by topic.
mod ListsGrow
mod Coordinates
mod PrismsInRange
mod Rectangles
mod Seen
mod Moves
mod Examples
