-- What is followed from products.
pub mod ChainsAreReached
pub mod FoundTogether
pub mod EachIsFound
pub mod LeadsGoOn
pub mod PlacesAreFollowed
pub mod BodiesAgree
pub mod LeadsFromProducts
