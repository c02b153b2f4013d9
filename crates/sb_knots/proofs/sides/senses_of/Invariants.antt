use Rattle.std.proofs.Common.{◌≡◌, take, map, true}
use Rattle.std.specs.List.{list_all}
use Rattle.theory_plans.specs.LoopEdges.{edges_of}
use Rattle.theory_plans.specs.Loops.{is_least_first}
use Rattle.theory_parity.specs.Sides.{is_left_at_first}
use Rattle.sb_knots.specs.Listing.{IsListing, IsSwept}
use Rattle.sb_knots.proofs.sides.senses_of.Given as goal

abbrev pub invariant-loops : goal.invariant-loops
invariant-loops l =
    IsListing l.points-items l.corners → IsSwept l.points-items l.corners l.lefts
    → list_all is_least_first l.points-items ≡ true
    → l.senses ≡ map (is_left_at_first (edges_of l.points-items))
    (take l.points-index l.points-items)
