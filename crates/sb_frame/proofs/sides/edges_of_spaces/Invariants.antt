-- The edges so far and those of the spaces that are left are all.
use Rattle.std.proofs.Common.{◌≡◌, ◌++◌, drop}
use Rattle.sb_frame.specs.Network.{plan_edges_of}
use Rattle.sb_frame.specs.Directions.{space_edges}
use Rattle.sb_frame.proofs.sides.edges_of_spaces.Given as goal

abbrev pub invariant-spaces : goal.invariant-spaces
invariant-spaces l =
    plan_edges_of l.list.items ++ space_edges (drop l.space-index l.spaces) ≡ space_edges l.spaces
