-- The conditions of products, and the first of them.
pub mod FirstOfAll
pub mod OneCondition
pub mod OneMore
pub mod LeastIsFirst
pub mod LeastOfProducts
pub mod FaultsAreConditions
