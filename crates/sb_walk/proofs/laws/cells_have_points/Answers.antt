-- The law is its lemma.
use Rattle.sb_walk.proofs.CellsOfGaps.FineCellsHavePoints.{has_plain_points}
use Rattle.sb_walk.proofs.laws.cells_have_points.Goals as goal

-- the law
pub returns : goal.returns
returns c = has_plain_points
