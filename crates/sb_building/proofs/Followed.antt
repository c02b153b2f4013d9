-- All that is read of a product is followed.
pub mod SeenWhereFollowed
pub mod ChainsAreFollowed
pub mod ShapesAreFollowed
pub mod ProductsAreRead
pub mod SeenByContents
pub mod ShapesByContents
