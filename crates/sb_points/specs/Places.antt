-- Where rational points of space lie.

use Rattle.std.specs.Prelude.{ℤ, ◌*ℤ◌, pos, Bool, false, ◌&&◌, int_lt, List, [], ◌∷◌, Option, Some, None}
use Rattle.std.specs.Prelude.{if◌then◌else◌}
use Rattle.theory_lists.specs.Parity.{differ}
use Rattle.sb_fraction.specs.Edges.{Edge, is_on}
use Rattle.theory_plans.specs.Inside.{is_crossed}
use Rattle.theory_numbers.specs.Fractions.{Ratio}
use Rattle.theory_numbers.specs.Arrows.{Arrow, cross}
use Rattle.sb_fraction.specs.declared.point.HPoint.{HPoint}
use Rattle.sb_fraction.specs.Spots.{Spot, spot}

-- the point over a point of the plan, at a height: with one denominator for all three
abbrev pub spot_over : HPoint → Ratio → Spot
spot_over p z = spot (z.den *ℤ p.x) (z.den *ℤ p.y) (p.w *ℤ z.num) (z.den *ℤ p.w)

-- the edge between the ends of two ways from a point crosses the ray from this to the right
abbrev pub is_passed : Arrow → Arrow → Bool
is_passed a b =
    if int_lt (pos 0) b.y
    then (if int_lt (pos 0) a.y then false else int_lt (pos 0) (cross a b))
    else (if int_lt (pos 0) a.y then int_lt (cross a b) (pos 0) else false)

-- whether an odd number of edges cross the ray from p to the right, where so many did before; none
-- where p lies on one of them
abbrev pub parity_after : Spot → Bool → List Edge → Option Bool
parity_after p odd [] = Some odd
parity_after p odd (e ∷ edges) =
    if is_on p e then None else parity_after p (differ (is_crossed p e) odd) edges

-- p lies strictly between two heights
abbrev pub lies_between : ℤ → ℤ → Spot → Bool
lies_between z0 z1 p = int_lt (z0 *ℤ p.w) p.z && int_lt p.z (z1 *ℤ p.w)
