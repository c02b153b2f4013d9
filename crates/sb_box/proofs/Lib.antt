-- The proofs, in reading order.

-- the code: its patches are patches, its list is the list of the box
pub mod BoxPatchesArePatches
pub mod BoxListIsPushed
-- what lies round a box, and what the rays from its faces meet
pub mod BoxLabels
pub mod BoxSides
pub mod PatchesOfBoxFaces
pub mod BoxLevels
pub mod FacesOfBoxes
-- the list is sound and in order
pub mod BoundariesArePatches
pub mod BoxListIsSound
mod Examples
