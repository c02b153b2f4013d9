-- A prism over a rectangle along x and y is a solid.

use Rattle.std.proofs.Common.{◌≡◌, ℤ, Bool, true, ◌&&◌, IsTrue, int_lt, [], ◌∷◌}
use Rattle.std.proofs.lemmas.Bool.{and_from, and_parts}
use Rattle.theory_plans.specs.Loops.{is_rectangle}
use Rattle.theory_plans.specs.Plans.{is_plan}
use Rattle.theory_plans.proofs.RectangleIsPlan.{rectangle_is_plan}
use Rattle.theory_plans.proofs.RectangleIsPlan.{sides_make_rectangle}
use Rattle.theory_plans.specs.Rectangles.{rectangle}
use Rattle.sb_fraction.specs.Plane.{is_coordinate}
use Rattle.sb_model.specs.Solids.{Upright, upright, is_upright, is_height}

-- one rectangle in range, the lower height below the upper one, both in range
abbrev pub is_box : Upright → Bool
is_box s =
    is_rectangle s.loops && (int_lt s.z0 s.z1 && (is_height s.z0 && is_height s.z1))

-- a box is a solid
pub box_is_solid : (s : Upright) → IsTrue (is_box s) → IsTrue (is_upright s)
box_is_solid s box =
    let parts = and_parts (is_rectangle s.loops)
    (int_lt s.z0 s.z1 && (is_height s.z0 && is_height s.z1)) box in
    let heights = and_parts (int_lt s.z0 s.z1) (is_height s.z0 && is_height s.z1) parts.1 in
    let range = and_parts (is_height s.z0) (is_height s.z1) heights.1 in
    and_from (is_plan s.loops && int_lt s.z0 s.z1 && is_height s.z0) (is_height s.z1)
    (and_from (is_plan s.loops && int_lt s.z0 s.z1) (is_height s.z0)
    (and_from (is_plan s.loops) (int_lt s.z0 s.z1) (rectangle_is_plan s.loops parts.0) heights.0)
    range.0)
    range.1

-- from a lower to a greater coordinate, both in range
pub record IsRange (low high : ℤ) : Type 0 where
  pub order : int_lt low high ≡ true
  pub low_in : is_coordinate low ≡ true
  pub high_in : is_coordinate high ≡ true

-- three ranges make a solid
pub ranges_are_solid : (x0 x1 y0 y1 z0 z1 : ℤ) → IsRange x0 x1 → IsRange y0 y1 → IsRange z0 z1
    → IsTrue (is_upright (upright (rectangle x0 x1 y0 y1 ∷ []) z0 z1))
ranges_are_solid x0 x1 y0 y1 z0 z1 x y z =
    let plan = sides_make_rectangle x0 x1 y0 y1 x.order y.order x.low_in x.high_in y.low_in
    y.high_in in
    box_is_solid (upright (rectangle x0 x1 y0 y1 ∷ []) z0 z1)
    (and_from (is_rectangle (rectangle x0 x1 y0 y1 ∷ [])) _ plan
    (and_from (int_lt z0 z1) _ z.order (and_from (is_height z0) (is_height z1) z.low_in z.high_in)))
