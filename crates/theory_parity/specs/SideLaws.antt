-- The laws of the solid on the left.

use Rattle.std.specs.Prelude.{◌≡◌, ◌↔◌, pos, true, false, not, IsTrue, List, ◌∷◌, ◌++◌, map}
use Rattle.std.specs.List.{list_all}
use Rattle.theory_lists.specs.Members.{Stands}
use Rattle.theory_lists.specs.Parity.{is_odd_number}
use Rattle.theory_numbers.specs.Arrows.{Arrow, cross, dot}
use Rattle.theory_numbers.specs.Rationals.{IsRational}
use Rattle.theory_numbers.specs.Tests.{is_positive}
use Rattle.sb_fraction.specs.declared.point.Point.{Point}
use Rattle.sb_fraction.specs.Spots.{Spot, IsSpot}
use Rattle.sb_fraction.specs.Edges.{Edge, span_of, turn_at, is_within}
use Rattle.sb_fraction.specs.Crossings.{ends_over}
use Rattle.sb_fraction.specs.Lines.{flat, reaches_past}
use Rattle.theory_plans.specs.LoopEdges.{edges_of_loop, edges_of}
use Rattle.theory_plans.specs.Inside.{is_in_plan}
use Rattle.theory_plans.specs.Loops.{are_loops}
use Rattle.theory_plans.specs.Plans.{is_plan, are_apart, is_solid_left_of, keep_left}
use Rattle.theory_plans.specs.Rays.{is_struck}
use Rattle.theory_parity.specs.Below.{IsWay, value_of, is_lower_at}
use Rattle.theory_parity.specs.Sides.{AreBentApart, turned_edge, turned_loop, is_left_at_first}
use Rattle.theory_parity.specs.Sides.{put_left, IsFreeTo, IsClosenessAt}

-- ---- one answer a loop

-- the solid lies on the left of all edges of a loop, or of none
abbrev pub HasOneSideALoop : Type 0
HasOneSideALoop =
    (loops : List (List Point)) → AreBentApart loops
    → (points : List Point) → Stands points loops
    → (e f : Edge) → Stands e (edges_of_loop points) → Stands f (edges_of_loop points)
    → is_solid_left_of e (edges_of loops) ≡ is_solid_left_of f (edges_of loops)

-- the edges of a loop turned round are its edges, each turned round
abbrev pub HasTurnedEdges : Type 0
HasTurnedEdges =
    (points : List Point) (e : Edge)
    → Stands e (edges_of_loop (turned_loop points)) ↔ Stands (turned_edge e) (edges_of_loop points)

-- where one loop of several is turned round, each edge has the solid on its left as before: so have
-- the edges of the other loops
abbrev pub HasOthersAsBefore : Type 0
HasOthersAsBefore =
    (before : List (List Point)) (points : List Point) (after : List (List Point)) (e : Edge)
    → is_solid_left_of e (edges_of (before ++ turned_loop points ∷ after))
    ≡ is_solid_left_of e (edges_of (before ++ points ∷ after))

-- and each edge of this loop turned round has it where it had not
abbrev pub HasTurnedAnswer : Type 0
HasTurnedAnswer =
    (before : List (List Point)) (points : List Point) (after : List (List Point))
    → AreBentApart (before ++ points ∷ after)
    → (e : Edge) → Stands e (edges_of_loop points)
    → is_solid_left_of (turned_edge e) (edges_of (before ++ turned_loop points ∷ after))
    ≡ not (is_solid_left_of e (edges_of (before ++ points ∷ after)))

-- so one edge a loop tells whether all keep it on the left
abbrev pub HasOneEdgeALoop : Type 0
HasOneEdgeALoop =
    (loops : List (List Point)) → AreBentApart loops
    → keep_left loops ≡ list_all (is_left_at_first (edges_of loops)) loops

-- loops of which each is turned round where its first edge does not have the solid on its left keep
-- it on the left
abbrev pub HasPutLeft : Type 0
HasPutLeft =
    (loops : List (List Point)) → AreBentApart loops
    → keep_left (map (put_left (edges_of loops)) loops) ≡ true

-- so normalised loops with edges that are apart are a plan once they are turned so
abbrev pub HasPutLeftPlan : Type 0
HasPutLeftPlan =
    (loops : List (List Point)) → are_loops loops ≡ true → are_apart loops ≡ true
    → is_plan (map (put_left (edges_of loops)) loops) ≡ true

-- and loops that keep it there are left as they are
abbrev pub HasPutLeftOnce : Type 0
HasPutLeftOnce =
    (loops : List (List Point)) → keep_left loops ≡ true
    → map (put_left (edges_of loops)) loops ≡ loops

-- ---- near an edge

-- near each point strictly inside an edge of a plan the points left of it lie inside the plan, and
-- those right of it outside
abbrev pub HasInsideOnTheLeft : Type 0
HasInsideOnTheLeft =
    (loops : List (List Point)) → IsTrue (is_plan loops)
    → (e : Edge) → Stands e (edges_of loops)
    → (m : Spot) → IsSpot m → is_within m e ≡ true
    → (most : Arrow) × IsClosenessAt loops e m most

-- a point lies inside the plan exactly where it lies left of an edge, if no edge passes between it
-- and some point strictly inside this one
abbrev pub HasInsideWhereLeft : Type 0
HasInsideWhereLeft =
    (loops : List (List Point)) → IsTrue (is_plan loops)
    → (e : Edge) → Stands e (edges_of loops)
    → (m : Spot) → IsSpot m → is_within m e ≡ true
    → (p : Spot) → IsSpot p → IsFreeTo loops p m
    → is_in_plan loops p ≡ is_positive (turn_at e p)

-- from such a point a ray that leaves the edge to its right strikes an even number of edges, and one
-- that leaves it to its left an odd number
abbrev pub HasEvenToTheRight : Type 0
HasEvenToTheRight =
    (loops : List (List Point)) → IsTrue (is_plan loops)
    → (e : Edge) → Stands e (edges_of loops)
    → (m : Spot) → IsSpot m → is_within m e ≡ true
    → (r : Arrow) → (cross (span_of e) r ≡ pos 0 → ⊥)
    → is_odd_number (is_struck r m) (edges_of loops) ≡ is_positive (cross (span_of e) r)

-- ---- along a direction

-- over a number that is the abscissa of none of its ends an odd number of edges lies below an edge
-- of a plan exactly where it runs against the direction: of the edges over this number, counted
-- from below, the first, the third and so on run along it
abbrev pub HasSensesAlternating : Type 0
HasSensesAlternating =
    (loops : List (List Point)) → IsTrue (is_plan loops)
    → (d u : Arrow) → IsWay d → IsRational u
    → (e : Edge) → Stands e (edges_of loops)
    → reaches_past d u e ≡ true → ends_over (flat d) u e ≡ false
    → is_odd_number (is_lower_at d u (value_of d u e)) (edges_of loops)
    ≡ not (is_positive (dot d (span_of e)))
