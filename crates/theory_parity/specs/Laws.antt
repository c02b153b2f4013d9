-- The laws of inside a plan.

use Rattle.std.specs.Prelude.{◌≡◌, pos, true, IsTrue, List}
use Rattle.std.specs.List.{AllByRecursion}
use Rattle.theory_lists.specs.OneOf.{ExactlyOne}
use Rattle.theory_lists.specs.Parity.{differ, is_odd_number}
use Rattle.theory_numbers.specs.Arrows.{Arrow, arrow}
use Rattle.theory_numbers.specs.Rationals.{IsRational, IsBelow}
use Rattle.theory_plane.specs.Sides.{LineSide, IsLineSide}
use Rattle.theory_plane.specs.Regions.{Region}
use Rattle.sb_fraction.specs.declared.point.Point.{Point}
use Rattle.sb_fraction.specs.Plane.{is_forward}
use Rattle.sb_fraction.specs.Spots.{Spot, IsSpot}
use Rattle.sb_fraction.specs.Edges.{Edge}
use Rattle.sb_fraction.specs.Lines.{reaches_past}
use Rattle.theory_plans.specs.LoopEdges.{edges_of}
use Rattle.theory_plans.specs.Inside.{is_crossed, is_in_plan}
use Rattle.theory_plans.specs.Plans.{is_plan}
use Rattle.theory_parity.specs.Below.{IsWay, is_below_at, is_in_along, spot_in, value_of}
use Rattle.theory_parity.specs.Below.{is_through, IsFree}
use Rattle.theory_parity.specs.Halves.{Half, IsLine, is_in_all, AreClearOf, IsInsideOff}
use Rattle.theory_parity.specs.Halves.{IsInsideThroughout}
use Rattle.theory_parity.specs.RegionsAlong.{is_in_region, IsInsideOffSides}

-- ---- along any direction

-- inside is: on no edge, and an odd number of edges below, along any vector d that is not 0
abbrev pub HasInsideAlongEach : Type 0
HasInsideAlongEach =
    (d : Arrow) (p : Spot) (loops : List (List Point)) → IsWay d → IsSpot p
    → is_in_plan loops p ≡ is_in_along d loops p

-- so it is with d.x > 0, and with (0, 1)
abbrev pub HasInsideAlongForward : Type 0
HasInsideAlongForward =
    (d : Arrow) (p : Spot) (loops : List (List Point)) → is_forward d.x d.y ≡ true → IsSpot p
    → is_in_plan loops p ≡ is_in_along d loops p

-- along (0, 1) an edge lies below a point where it crosses the ray to the right: there it is the
-- definition itself
abbrev pub HasBelowCrossed : Type 0
HasBelowCrossed =
    (p : Spot) (e : Edge) → IsSpot p
    → is_below_at (arrow (pos 0) (pos 1)) p e ≡ is_crossed p e

-- ---- from one point to another

-- two points with no edge between them have one answer
abbrev pub HasMoves : Type 0
HasMoves =
    (loops : List (List Point)) (p q : Spot) → IsSpot p → IsSpot q
    → AreClearOf p q (edges_of loops) → is_in_plan loops p ≡ is_in_plan loops q

-- on a line u = constant where exactly one edge passes through m and no other has a value from v to
-- w, the number of edges below is odd at one of (u, v) and (u, w) and even at the other
abbrev pub HasFlip : Type 0
HasFlip =
    (d u v m w : Arrow) (es : List Edge) → IsWay d → IsRational u → IsRational v → IsRational m
    → IsRational w → IsBelow v m → IsBelow m w
    → AllByRecursion (λ e. reaches_past d u e ≡ true → IsFree v m w (value_of d u e)) es
    → ExactlyOne (is_through d u m) es
    → differ (is_odd_number (is_below_at d (spot_in d u v)) es)
    (is_odd_number (is_below_at d (spot_in d u w)) es)
    ≡ true

-- ---- whole regions

-- an intersection of open half-planes whose points off finitely many lines lie inside a plan lies
-- inside it
abbrev pub HasHalvesInside : Type 0
HasHalvesInside =
    (loops : List (List Point)) (cuts halves : List Half) → IsTrue (is_plan loops)
    → AllByRecursion IsLine cuts → IsInsideOff loops cuts (is_in_all halves)
    → IsInsideThroughout loops (is_in_all halves)

-- so does the region of a patch, in the frame of any vector d
abbrev pub HasRegionInside : Type 0
HasRegionInside =
    (loops : List (List Point)) (d : Arrow) (r : Region) (cuts : List Half)
    → IsTrue (is_plan loops) → AllByRecursion IsLine cuts
    → IsInsideOff loops cuts (is_in_region d r) → IsInsideThroughout loops (is_in_region d r)

-- and where the lines are abscissae and sides of that frame
abbrev pub HasRegionInsideOffSides : Type 0
HasRegionInsideOffSides =
    (loops : List (List Point)) (d : Arrow) (r : Region) (abscissae : List Arrow)
    (cuts : List LineSide) → IsTrue (is_plan loops) → IsWay d → AllByRecursion IsRational abscissae
    → AllByRecursion IsLineSide cuts → IsInsideOffSides loops d abscissae cuts r
    → IsInsideThroughout loops (is_in_region d r)
