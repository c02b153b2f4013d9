-- The law is its lemma.
use Rattle.theory_faces.proofs.SheetsOfFaces.{has_level_region_inside}
use Rattle.theory_faces.proofs.level_regions.Goals as goal

-- the law
pub returns : goal.returns
returns c = has_level_region_inside
