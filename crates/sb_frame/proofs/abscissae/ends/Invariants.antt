-- The abscissae of the edges so far and those of the edges that are left are all.
use Rattle.std.proofs.Common.{◌≡◌, ◌++◌, drop}
use Rattle.sb_fraction.specs.Lines.{arrow_along}
use Rattle.sb_frame.specs.Network.{plan_edges_of}
use Rattle.sb_frame.specs.Abscissae.{ratios_of, of_edges}
use Rattle.sb_frame.proofs.abscissae.ends.Given as goal

abbrev pub invariant-edges : goal.invariant-edges
invariant-edges l =
    ratios_of l.list.items ++ of_edges (arrow_along l.d) (plan_edges_of (drop l.edge-index l.edges))
    ≡ of_edges (arrow_along l.d) (plan_edges_of l.edges)
