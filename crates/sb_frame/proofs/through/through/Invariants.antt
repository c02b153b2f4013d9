-- The places so far, and those among the edges that are left, are all.
use Rattle.sb_fraction.specs.Spots.{spot_of}
use Rattle.sb_fraction.specs.Edges.{edge_of, is_within}
use Rattle.sb_frame.proofs.Meetings.PlacesThrough.{PlacesTo}
use Rattle.sb_frame.proofs.through.through.Given as goal

abbrev pub invariant-edges : goal.invariant-edges
invariant-edges l =
    PlacesTo (λ e. is_within (spot_of l.c.point) (edge_of e.segment)) l.edges l.place l.list
