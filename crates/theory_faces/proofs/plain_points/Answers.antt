-- The law is its lemma.
use Rattle.theory_faces.proofs.Points.PlainOffCuts.{has_plain_off_cuts}
use Rattle.theory_faces.proofs.plain_points.Goals as goal

-- the law
pub returns : goal.returns
returns c = has_plain_off_cuts
