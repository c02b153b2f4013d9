use Rattle.theory_plans.proofs.Edges.EdgesByPlace.{edge_by_place}
use Rattle.sb_model.proofs.loops.edge_in.Goals as goal

pub returns-clause-value : goal.returns-clause-value
returns-clause-value c = rw c.next_place.ensures.value (edge_by_place _ _ _ c.requires.within)
