-- The law is its lemma.
use Rattle.theory_faces.proofs.SheetsOfFaces.{has_one_trimmed}
use Rattle.theory_faces.proofs.trimmed_on_sheets.Goals as goal

-- the law
pub returns : goal.returns
returns c = has_one_trimmed
