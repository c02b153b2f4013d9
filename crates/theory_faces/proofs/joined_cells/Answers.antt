-- The law is its lemma.
use Rattle.theory_faces.proofs.JoinedCells.{has_joined_cells}
use Rattle.theory_faces.proofs.joined_cells.Goals as goal

-- the law
pub returns : goal.returns
returns c = has_joined_cells
