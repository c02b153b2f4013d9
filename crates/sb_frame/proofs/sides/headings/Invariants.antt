-- The directions of the edges so far.
use Rattle.std.proofs.Common.{◌≡◌, map, take}
use Rattle.sb_fraction.specs.Lines.{arrow_along}
use Rattle.sb_frame.specs.Network.{plan_edges_of}
use Rattle.sb_frame.specs.Directions.{axis_and_headings}
use Rattle.sb_frame.proofs.sides.headings.Given as goal

abbrev pub invariant-edges : goal.invariant-edges
invariant-edges l =
    map arrow_along l.list.items ≡ axis_and_headings (plan_edges_of (take l.edge-index l.edges))
