-- What stands on a ray, and the walk along it.
pub mod RaysWithBorders
pub mod PointsOnTheRay
pub mod LabelsAlongTheNormal
pub mod WalkAlongTheNormal
pub mod WalkUpAndDown
pub mod RaysOfFaces
