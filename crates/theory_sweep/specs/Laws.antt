-- The laws of a line that passes over loops.

use Rattle.std.specs.Prelude.{◌≡◌, ℤ, ◌<ℤ◌, ◌≤ℤ◌, true, false, not, List, [], ◌∷◌, ◌++◌}
use Rattle.std.specs.List.{list_all}
use Rattle.theory_lists.specs.Members.{Stands}
use Rattle.theory_lists.specs.Parity.{is_odd_number}
use Rattle.theory_numbers.specs.Arrows.{Arrow}
use Rattle.sb_fraction.specs.declared.point.Point.{Point}
use Rattle.sb_fraction.specs.Edges.{Edge}
use Rattle.sb_fraction.specs.Plane.{is_plan_point}
use Rattle.theory_plans.specs.LoopEdges.{edges_of}
use Rattle.theory_plans.specs.Loops.{is_bent_loop, comes_before}
use Rattle.theory_plans.specs.Plans.{are_apart, is_solid_left_of}
use Rattle.theory_parity.specs.Below.{IsWay}
use Rattle.theory_parity.specs.Sides.{AreBentApart}
use Rattle.theory_sweep.specs.Passing.{pass_of, sweep_way}
use Rattle.theory_sweep.specs.Corners.{Corner, corners_of, ArePassedApart}
use Rattle.theory_sweep.specs.Open.{AreOpen, IsNext, IsSplitAt, AreBegun, IsOpenAt, AllNeighbours}
use Rattle.theory_sweep.specs.Open.{MayBeNeighbours, may_be_neighbours, last_item, first_item}

-- ---- from corner to corner

-- before the first corner the line stands over no edge
abbrev pub HasNoneAtFirst : Type 0
HasNoneAtFirst =
    (d : Arrow) → IsWay d → (loops : List (List Point)) (k : ℤ)
    → ((c : Corner) → Stands c (corners_of loops) → k <ℤ pass_of d c.at) → AreOpen d loops k []

-- at the next corner the edges that end there are taken out, and those that begin put in behind the
-- ones that lie below; where the neighbours that this joins pass the test, the line stands over these
-- edges then
abbrev pub HasStep : Type 0
HasStep =
    (d : Arrow) → IsWay d → (loops : List (List Point)) → ArePassedApart d loops
    → list_all is_bent_loop loops ≡ true
    → (k : ℤ) (es : List Edge) → AreOpen d loops k es → (c : Corner) → IsNext d loops k c
    → (front ending back : List Edge) → IsSplitAt c.at es front ending back
    → (new : List Edge) → AreBegun d loops c.at new
    → AllNeighbours MayBeNeighbours (last_item front ++ (new ++ first_item back))
    → AreOpen d loops (pass_of d c.at) (front ++ (new ++ back))

-- two edges over which the line stands, and which fail the test, are a knot
abbrev pub HasKnot : Type 0
HasKnot =
    (d : Arrow) (loops : List (List Point)) (k : ℤ) (e f : Edge) → IsOpenAt d loops k e
    → IsOpenAt d loops k f → may_be_neighbours e f ≡ false → are_apart loops ≡ false

-- ---- in the end

-- once all corners are passed the loops are apart
abbrev pub HasApart : Type 0
HasApart =
    (d : Arrow) → IsWay d → (loops : List (List Point)) → ArePassedApart d loops
    → list_all is_bent_loop loops ≡ true
    → (k : ℤ) (es : List Edge) → AreOpen d loops k es
    → ((c : Corner) → Stands c (corners_of loops) → pass_of d c.at ≤ℤ k) → are_apart loops ≡ true

-- ---- the solid

-- of loops that are apart the solid lies on the left of an edge, as the line passes it, exactly where
-- an even number of edges lie below it
abbrev pub HasSense : Type 0
HasSense =
    (d : Arrow) → IsWay d → (loops : List (List Point)) → ArePassedApart d loops
    → AreBentApart loops → (k : ℤ) (es : List Edge) → AreOpen d loops k es
    → (front : List Edge) (s : Edge) (back : List Edge) → es ≡ front ++ s ∷ back
    → Stands s (edges_of loops)
    → is_solid_left_of s (edges_of loops) ≡ not (is_odd_number (λ e. true) front)

-- ---- the way

-- along the way of the sweep points in range are passed by x, and by y where these are equal
abbrev pub HasPassedInOrder : Type 0
HasPassedInOrder =
    (a b : Point) → is_plan_point a ≡ true → is_plan_point b ≡ true → comes_before a b ≡ true
    → pass_of sweep_way a <ℤ pass_of sweep_way b
