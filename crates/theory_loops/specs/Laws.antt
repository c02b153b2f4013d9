-- The laws of loops that are handed in.

use Rattle.std.specs.Prelude.{◌≡◌, ◌↔◌, ◌<◌, pos, true, false, not, IsTrue, List, length}
use Rattle.std.specs.List.{list_all, list_any}
use Rattle.theory_lists.specs.Members.{AllOfTwo, AreOnce}
use Rattle.theory_lists.specs.Parity.{differ, is_odd_number}
use Rattle.theory_numbers.specs.Arrows.{Arrow}
use Rattle.sb_fraction.specs.declared.point.Point.{Point}
use Rattle.sb_fraction.specs.Plane.{is_plan_point}
use Rattle.sb_fraction.specs.Spots.{Spot, IsSpot}
use Rattle.sb_fraction.specs.Edges.{Edge, edge, is_on}
use Rattle.theory_plans.specs.LoopEdges.{edges_of}
use Rattle.theory_plans.specs.Inside.{is_crossed, is_in_plan}
use Rattle.theory_plans.specs.Loops.{bend, is_bent_loop, is_least_first, is_loop}
use Rattle.theory_plans.specs.Plans.{is_same_point, is_of_each_two, do_touch, corners_in}
use Rattle.theory_plans.specs.Plans.{are_apart, is_plan}
use Rattle.theory_plans.specs.Rays.{is_struck}
use Rattle.theory_loops.specs.Normal.{normal_loop}
use Rattle.theory_loops.specs.Answers.{keeps_few, are_flat, are_knotted, plan_of}
use Rattle.theory_loops.specs.Orders.{Becomes, IsSameLoop, AreSameLoops, MeetConsecutively}

-- ---- a point that is dropped

-- of three points on one line, a ray strikes the edge between the outer two exactly where it strikes
-- one of the two edges between neighbours and not both
abbrev pub HasDropStruck : Type 0
HasDropStruck =
    (r : Arrow) (p : Spot) (a b c : Point) → bend a b c ≡ pos 0
    → differ (is_struck r p (edge a b)) (is_struck r p (edge b c)) ≡ is_struck r p (edge a c)

-- so with the ray to the right
abbrev pub HasDropCrossed : Type 0
HasDropCrossed =
    (p : Spot) (a b c : Point) → bend a b c ≡ pos 0
    → differ (is_crossed p (edge a b)) (is_crossed p (edge b c)) ≡ is_crossed p (edge a c)

-- a point on neither of the two edges between neighbours is not on the edge between the outer two
abbrev pub HasOuterCovered : Type 0
HasOuterCovered =
    (p : Spot) (a b c : Point) → bend a b c ≡ pos 0 → is_on p (edge a b) ≡ false
    → is_on p (edge b c) ≡ false → is_on p (edge a c) ≡ false

-- ---- in any order

-- the normal form comes of the loop
abbrev pub HasNormalLeft : Type 0
HasNormalLeft = (points : List Point) → Becomes points (normal_loop points)

-- whatever was dropped before, a bent loop that comes of it is the normal form, read from some point
abbrev pub HasOneLeft : Type 0
HasOneLeft =
    (points left : List Point) → Becomes points left → is_bent_loop left ≡ true
    → IsSameLoop left (normal_loop points)

-- begun at its least point it is the normal form
abbrev pub HasLeastLeft : Type 0
HasLeastLeft =
    (points left : List Point) → Becomes points left → is_bent_loop left ≡ true
    → is_least_first left ≡ true → left ≡ normal_loop points

-- and where fewer than three points come of it, it keeps fewer than three
abbrev pub HasFewLeft : Type 0
HasFewLeft =
    (points left : List Point) → Becomes points left → length left < 3 → keeps_few points ≡ true

-- whether edges are apart does not depend on the points from which the loops are read
abbrev pub HasApartFromAny : Type 0
HasApartFromAny =
    (loops others : List (List Point)) → AreSameLoops loops others
    → are_apart loops ≡ are_apart others

-- two edges touch exactly where they have a point in common
abbrev pub HasTouch : Type 0
HasTouch =
    (e f : Edge) → do_touch e f ≡ true
    ↔ ((p : Spot) × (IsSpot p × ((is_on p e ≡ true) × (is_on p f ≡ true))))

-- edges are apart exactly where no point is a corner twice and two of them have a point in common
-- only where one begins as the other ends
abbrev pub HasApartInWords : Type 0
HasApartInWords =
    (loops : List (List Point)) → are_apart loops ≡ true
    ↔ (AreOnce (corners_in loops) × AllOfTwo MeetConsecutively (edges_of loops))

-- ---- the plan is the same

-- at each point an odd number of edges of the plan cross the ray to the right exactly where an odd
-- number of the edges handed in do
abbrev pub HasSameParity : Type 0
HasSameParity =
    (loops : List (List Point)) (p : Spot)
    → is_odd_number (is_crossed p) (edges_of (plan_of loops))
    ≡ is_odd_number (is_crossed p) (edges_of loops)

-- a point on no edge handed in is on no edge of the plan
abbrev pub HasNoOtherEdge : Type 0
HasNoOtherEdge =
    (loops : List (List Point)) (p : Spot) → list_any (is_on p) (edges_of loops) ≡ false
    → list_any (is_on p) (edges_of (plan_of loops)) ≡ false

-- so such a point lies inside the plan exactly where it lies inside the loops handed in
abbrev pub HasSameInside : Type 0
HasSameInside =
    (loops : List (List Point)) (p : Spot) → list_any (is_on p) (edges_of loops) ≡ false
    → is_in_plan (plan_of loops) p ≡ is_in_plan loops p

-- ---- what comes out is a plan

-- a loop that keeps three points or more is bent at each
abbrev pub HasNormalBent : Type 0
HasNormalBent =
    (points : List Point) → keeps_few points ≡ false → is_bent_loop (normal_loop points) ≡ true

-- where its points are in range and no two that it keeps are one, it is a normalised loop
abbrev pub HasNormalLoop : Type 0
HasNormalLoop =
    (points : List Point) → list_all is_plan_point points ≡ true → keeps_few points ≡ false
    → is_of_each_two (λ a b. not (is_same_point a b)) (normal_loop points) ≡ true
    → is_loop (normal_loop points) ≡ true

-- loops in range that are neither flat nor knotted give a plan
abbrev pub HasPlan : Type 0
HasPlan =
    (loops : List (List Point)) → list_all (list_all is_plan_point) loops ≡ true
    → are_flat loops ≡ false → are_knotted loops ≡ false → is_plan (plan_of loops) ≡ true

-- and a plan is neither, and is left as it is
abbrev pub HasPlanOnce : Type 0
HasPlanOnce =
    (loops : List (List Point)) → IsTrue (is_plan loops)
    → (are_flat loops ≡ false) × ((are_knotted loops ≡ false) × (plan_of loops ≡ loops))
