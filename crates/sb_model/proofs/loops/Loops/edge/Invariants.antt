use Rattle.std.proofs.Common.{◌≡◌, drop, slice_get}
use Rattle.theory_plans.specs.LoopEdges.{edges_of}
use Rattle.sb_model.proofs.loops.Loops.edge.Given as goal

-- the edge that is looked for is edge `left` of the loops that are left
abbrev pub invariant-loop-points : goal.invariant-loop-points
invariant-loop-points l =
    slice_get (edges_of (drop l.points-index l.points-items)) l.left
    ≡ slice_get (edges_of l.fn.self) l.fn.k
