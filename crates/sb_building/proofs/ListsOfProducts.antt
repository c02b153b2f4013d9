-- Products by rising numbers, and the model of them.
pub mod EntriesInOrder
pub mod EachByNumber
pub mod RelationsCount
pub mod FillingsInOrder
pub mod PartsMakeModels
