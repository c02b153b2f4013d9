-- The edges of a plan are proper.
use Rattle.std.proofs.Common.{◌∙◌, ap}
use Rattle.std.specs.List.{list_all}
use Rattle.theory_plans.specs.LoopEdges.{edges_of}
use Rattle.theory_plans.proofs.Edges.EdgesOfPlans.{plan_edges_are_proper}
use Rattle.sb_frame.specs.Owners.{is_proper_edge}
use Rattle.sb_frame.proofs.reading.append.Goals as goal

pub append_loops-requires : goal.append_loops-requires
append_loops-requires c =
    ap (λ loops. list_all is_proper_edge (edges_of loops)) c.as_slice.ensures
    ∙ plan_edges_are_proper c.args.loops.now c.requires
