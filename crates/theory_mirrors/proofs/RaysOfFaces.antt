-- Spaces on the rays of faces.
pub mod SpacesAlongARay
pub mod SpacesOnLevelRays
pub mod WaysFromFaces
pub mod SpacesOnUprightRays
