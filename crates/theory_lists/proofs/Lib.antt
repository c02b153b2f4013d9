-- The laws by topic.

-- what stands in a list, and what holds of all of them
pub mod Members
-- lists put together from blocks: exactly one, each one, each two
pub mod Blocks
-- lists in another order
pub mod InAnyOrder
-- tests that all items pass
pub mod Passing
-- lists with the same members, in neither of which one stands twice
pub mod SameMembers
-- lists that are sorted strictly, and lists that a test parts
pub mod SortedLists
pub mod Parted
-- exclusive or, and parities of lists
pub mod Parity
mod Examples
