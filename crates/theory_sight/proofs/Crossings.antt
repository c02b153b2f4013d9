-- The pieces of a walk, and the items of a crossing.
pub mod Thickness
pub mod Extents
pub mod BandsCut
pub mod BandsOfPrisms
pub mod ItemsOfPieces
pub mod LayeredItems
pub mod ElementAt
pub mod PiecesAreRuns
pub mod ColumnOfLine
pub mod CrossingItems
