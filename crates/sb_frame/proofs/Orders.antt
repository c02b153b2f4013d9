-- Lists that rise, numbers in order, and lists without repetition.
pub mod RisingLists
pub mod NumbersInOrder
pub mod SortedOnce
pub mod AsManyAtMost
