-- Sides, faces, the points on them, and the patches and fine cells of faces.
pub mod Sides
pub mod SideLines
pub mod Faces
pub mod Facings
pub mod Corners
pub mod PlainPoints
pub mod Patches
pub mod FineCells
