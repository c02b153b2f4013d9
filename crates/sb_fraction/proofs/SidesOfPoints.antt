-- The turn of an edge at a plan point, from the ways to its two ends.

use Rattle.std.proofs.Common.{◌≡◌, ◌-ℤ◌, IsTrue, ap₂, refl, sym}
use Rattle.std.proofs.lemmas.Int.{to_z-of_z}
use Rattle.std.proofs.lemmas.Bool.{and_parts}
use Rattle.theory_numbers.specs.Arrows.{arrow, cross}
use Rattle.theory_numbers.proofs.Ring.{mul-one}
use Rattle.sb_fraction.specs.declared.point.Point.{Point}
use Rattle.sb_fraction.specs.Spots.{spot_at}
use Rattle.sb_fraction.specs.Edges.{Edge, turn_at, seen_from, is_in_range}
use Rattle.sb_fraction.specs.Plane.{is_plan_point}

-- from a plan point an end is seen as far as it is
pub seen_from_point : (p a : Point) → seen_from (spot_at p) a ≡ arrow (a.x -ℤ p.x) (a.y -ℤ p.y)
seen_from_point p a =
    ap₂ (λ x y. arrow (x -ℤ p.x) (y -ℤ p.y)) (mul-one a.x) (mul-one a.y)

-- the turn of an edge at a plan point is the cross product of the ways to its ends
pub turn_at_point : (e : Edge) (p : Point)
    → cross (arrow (e.a.x -ℤ p.x) (e.a.y -ℤ p.y)) (arrow (e.b.x -ℤ p.x) (e.b.y -ℤ p.y))
    ≡ turn_at e (spot_at p)
turn_at_point e p =
    rw (sym (seen_from_point p e.a), sym (seen_from_point p e.b)) refl

-- an edge in range begins at a plan point
pub first_in_range : (e : Edge) → IsTrue (is_in_range e) → IsTrue (is_plan_point e.a)
first_in_range e in_range = (and_parts (is_plan_point e.a) (is_plan_point e.b) in_range).0

-- and ends at one
pub second_in_range : (e : Edge) → IsTrue (is_in_range e) → IsTrue (is_plan_point e.b)
second_in_range e in_range = (and_parts (is_plan_point e.a) (is_plan_point e.b) in_range).1

-- for `orient`
pub ruleset sides = (to_z-of_z, turn_at_point, first_in_range, second_in_range)
