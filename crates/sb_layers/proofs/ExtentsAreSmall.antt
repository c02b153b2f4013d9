-- The extent of a prism along a short normal is within 2·10^12.

use Rattle.std.proofs.Common.{◌≡◌, refl, sym, ap, ◌∙◌, arith, ℕ, ◌≤◌, ◌≤ℤ◌, ◌<ℤ◌, ◌*◌, ◌+◌, ℤ, pos, ◌+ℤ◌, ◌*ℤ◌, Bool, true, IsTrue}
use Rattle.std.proofs.Common.{List, [], ◌∷◌, ◌++◌, unsigned_abs, nat_le, ◌&&◌, subst}
use Rattle.std.proofs.lemmas.Int.{ints, unsigned_abs-mul}
use Rattle.std.proofs.lemmas.Bool.{and_parts, leb-true}
use Rattle.std.proofs.lemmas.Nat.{mul-le}
use Rattle.std.specs.Int.{int_min, int_max}
use Rattle.std.specs.List.{AllByRecursion, fold, list_all}
use Rattle.sb_fraction.specs.declared.point.Point.{Point}
use Rattle.sb_fraction.specs.Bounds.{greatest_cross}
use Rattle.sb_fraction.specs.Crossings.{abscissa_at}
use Rattle.sb_fraction.specs.Plane.{is_plan_point, is_coordinate, longest_step, greatest_coordinate}
use Rattle.theory_plans.specs.Plans.{is_plan}
use Rattle.theory_plans.proofs.LoopsInRange.{points_in_range}
use Rattle.sb_model.specs.declared.layers.Axis.{Axis}
use Rattle.sb_model.specs.Solids.{Upright, is_upright, is_height}
use Rattle.sb_model.specs.Labels.{axis_vector, IsShortAxis, readings_over, readings_in, readings_of}
use Rattle.sb_model.specs.Labels.{low_along, high_along, least_of, greatest_of}

abbrev IsSmall : ℤ → Type 0
IsSmall z = unsigned_abs z ≤ greatest_cross

small_product : (a b : ℤ) → unsigned_abs a ≤ greatest_coordinate → unsigned_abs b ≤ longest_step
    → unsigned_abs (a *ℤ b) ≤ greatest_coordinate * longest_step
small_product a b a_in b_in =
    rw unsigned_abs-mul (mul-le (unsigned_abs a) (unsigned_abs b) greatest_coordinate longest_step a_in b_in)

small_sum : (a b c : ℤ) → unsigned_abs a ≤ 500000000000 → unsigned_abs b ≤ 500000000000
    → unsigned_abs c ≤ 500000000000 → unsigned_abs ((a +ℤ b) +ℤ c) ≤ 2000000000000
small_sum a b c a_in b_in c_in = omega (arith, ints)

reading_is_small : (p : Point) (z : ℤ) (n : Axis) → is_plan_point p ≡ true → is_coordinate z ≡ true
    → IsShortAxis n → IsSmall (abscissa_at p (axis_vector n) +ℤ (z *ℤ (axis_vector n).z))
reading_is_small p z n p_in z_in short =
    let plan = and_parts (is_coordinate p.x) (is_coordinate p.y) p_in in
    small_sum (p.x *ℤ n.x) (p.y *ℤ n.y) (z *ℤ n.z)
    (small_product p.x n.x (leb-true _ _ plan.0) short.of_x)
    (small_product p.y n.y (leb-true _ _ plan.1) short.of_y)
    (small_product z n.z (leb-true _ _ z_in) short.of_z)

all_of_both : (xs ys : List ℤ) → AllByRecursion IsSmall xs → AllByRecursion IsSmall ys
    → AllByRecursion IsSmall (xs ++ ys)
all_of_both [] ys xs_in ys_in = ys_in
all_of_both (x ∷ xs) ys xs_in ys_in = (xs_in.0, all_of_both xs ys xs_in.1 ys_in)

module _ (s : Upright) (n : Axis) (short : IsShortAxis n) (low_in : is_coordinate s.z0 ≡ true)
    (high_in : is_coordinate s.z1 ≡ true) where
  over_points : (points : List Point) → list_all is_plan_point points ≡ true
      → AllByRecursion IsSmall (readings_in s (axis_vector n) points)
  over_points [] all = tt
  over_points (p ∷ points) all =
      let parts = and_parts (is_plan_point p) _ all in (
        reading_is_small p s.z0 n parts.0 low_in short,
        (reading_is_small p s.z1 n parts.0 high_in short, over_points points parts.1),
      )

  over_loops : (loops : List (List Point)) → list_all (list_all is_plan_point) loops ≡ true
      → AllByRecursion IsSmall (readings_of s (axis_vector n) loops)
  over_loops [] all = tt
  over_loops (points ∷ loops) all =
      let parts = and_parts (list_all is_plan_point points) _ all in
      all_of_both (readings_in s (axis_vector n) points) (readings_of s (axis_vector n) loops)
      (over_points points parts.0) (over_loops loops parts.1)

lesser_is_small : (a b : ℤ) → IsSmall a → IsSmall b → IsSmall (int_min a b)
lesser_is_small a b a_in b_in = grind (arith, ints)

greater_is_small : (a b : ℤ) → IsSmall a → IsSmall b → IsSmall (int_max a b)
greater_is_small a b a_in b_in = grind (arith, ints)

least_from : (z : ℤ) (zs : List ℤ) → IsSmall z → AllByRecursion IsSmall zs → IsSmall (fold int_min z zs)
least_from z [] z_in all = z_in
least_from z (y ∷ zs) z_in all = least_from (int_min z y) zs (lesser_is_small z y z_in all.0) all.1

greatest_from : (z : ℤ) (zs : List ℤ) → IsSmall z → AllByRecursion IsSmall zs
    → IsSmall (fold int_max z zs)
greatest_from z [] z_in all = z_in
greatest_from z (y ∷ zs) z_in all = greatest_from (int_max z y) zs (greater_is_small z y z_in all.0) all.1

least_is_small : (zs : List ℤ) → AllByRecursion IsSmall zs → IsSmall (least_of zs)
least_is_small [] all = omega arith
least_is_small (z ∷ zs) all = least_from z zs all.0 all.1

greatest_is_small : (zs : List ℤ) → AllByRecursion IsSmall zs → IsSmall (greatest_of zs)
greatest_is_small [] all = omega arith
greatest_is_small (z ∷ zs) all = greatest_from z zs all.0 all.1

pub extent_is_small : (s : Upright) (n : Axis) → IsTrue (is_upright s) → IsShortAxis n
    → IsSmall (low_along s (axis_vector n)) × IsSmall (high_along s (axis_vector n))
extent_is_small s n is short =
    let one = and_parts _ (is_height s.z1) is in
    let two = and_parts _ (is_height s.z0) one.0 in
    let three = and_parts (is_plan s.loops) _ two.0 in
    let all = over_loops s n short two.1 one.1 s.loops (points_in_range s.loops three.0) in (
      least_is_small (readings_of s (axis_vector n) s.loops) all,
      greatest_is_small (readings_of s (axis_vector n) s.loops) all,
    )

-- what lies in the extent is as small
pub between_is_small : (s : Upright) (n : Axis) (x : ℤ) → IsTrue (is_upright s) → IsShortAxis n
    → low_along s (axis_vector n) ≤ℤ x → x ≤ℤ high_along s (axis_vector n)
    → unsigned_abs x ≤ greatest_cross
between_is_small s n x is short low high =
    let small = extent_is_small s n is short in
    between (low_along s (axis_vector n)) x (high_along s (axis_vector n)) small.0 small.1 low high
  where
    between : (a b c : ℤ) → IsSmall a → IsSmall c → a ≤ℤ b → b ≤ℤ c → IsSmall b
    between a b c a_in c_in one two = grind (arith, ints)

-- the first and the last position of a crossing
pub first_within : (s : Upright) (n : Axis) (x y : ℤ) → IsTrue (is_upright s) → IsShortAxis n → x <ℤ y
    → low_along s (axis_vector n) ≤ℤ x → y ≤ℤ high_along s (axis_vector n)
    → unsigned_abs x ≤ greatest_cross
first_within s n x y is short rising low high =
    between_is_small s n x is short low (through x y (high_along s (axis_vector n)) rising high)
  where
    through : (a b c : ℤ) → a <ℤ b → b ≤ℤ c → a ≤ℤ c
    through a b c one two = omega (arith, ints)

pub last_within : (s : Upright) (n : Axis) (x y : ℤ) → IsTrue (is_upright s) → IsShortAxis n → x <ℤ y
    → low_along s (axis_vector n) ≤ℤ x → y ≤ℤ high_along s (axis_vector n)
    → unsigned_abs y ≤ greatest_cross
last_within s n x y is short rising low high =
    between_is_small s n y is short (through (low_along s (axis_vector n)) x y low rising) high
  where
    through : (a b c : ℤ) → a ≤ℤ b → b <ℤ c → a ≤ℤ c
    through a b c one two = omega (arith, ints)
