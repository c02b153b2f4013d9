-- The outward normal over an edge stands on the right of its direction, by the way it runs; turned by a
-- quarter a direction is a level axis.

use Rattle.std.proofs.Common.{◌≡◌, refl, ap, sym, ◌∙◌, ℕ, ℤ, pos, neg_ℤ, Bool, true, false, unsigned_abs, arith}
use Rattle.std.proofs.Common.{◌&&◌, ◌||◌, nat_le, IsTrue, subst}
use Rattle.std.proofs.lemmas.Int.{ints, to_z-of_z}
use Rattle.std.proofs.lemmas.Bool.{and_parts, and_from, or_left, eq-eqb, eqb-true}
use Rattle.std.proofs.lemmas.Nat.Gcd.{same_from_IsGcd}
use Rattle.std.proofs.Math.IntN.{neg_ℤ-neg_ℤ}
use Rattle.std.specs.Ordering.{int_eq}
use Rattle.theory_numbers.specs.Divisors.{are_coprime, greatest_divisor}
use Rattle.theory_numbers.proofs.Fractions.GreatestDivisor.{greatest_divisor_is}
use Rattle.theory_plans.proofs.Edges.StepsOfEdges.{direction_along, direction_against}
use Rattle.sb_fraction.specs.Plane.{is_forward, longest_step}
use Rattle.sb_fraction.specs.Spots.{Vector, vector, opposite}
use Rattle.sb_fraction.specs.Edges.{Edge}
use Rattle.sb_fraction.specs.Directions.{step, runs_along, direction_of, normal_over}
use Rattle.sb_model.specs.declared.layers.Axis.{Axis}
use Rattle.sb_model.specs.Building.{is_level_axis, is_upright_axis}
use Rattle.sb_model.specs.Surfaces.Facings.{right_of}
use Rattle.sb_model.specs.Labels.{axis_vector}
use Rattle.sb_fraction.specs.declared.direction.Direction.{Direction}
use Rattle.sb_fraction.specs.Lines.{arrow_along, flat}

-- what stands on the right of the edge's direction is its outward normal
pub right_is_normal : (e : Edge) (d : Vector) (is_along : Bool) → d ≡ direction_of e
    → is_along ≡ runs_along e → right_of d is_along ≡ normal_over e
unfolding normal_over
right_is_normal e d true d_is along_is =
    ap (λ v. vector v.y (neg_ℤ v.x) (pos 0)) (d_is ∙ direction_along e (sym along_is))
right_is_normal e d false d_is along_is =
    ap (λ v. vector (neg_ℤ v.y) v.x (pos 0)) (d_is ∙ direction_against e (sym along_is))
    ∙ ap (λ y. vector y (neg_ℤ (step e).x) (pos 0)) (neg_ℤ-neg_ℤ (step e).y)

-- common divisors do not know the order of the two numbers
coprime_turned : (a b : ℕ) → are_coprime a b ≡ true → are_coprime b a ≡ true
coprime_turned a b is =
    let left = greatest_divisor_is a b in
    let right = greatest_divisor_is b a in
    let same : greatest_divisor a b ≡ greatest_divisor b a =
    same_from_IsGcd a b _ _ left (right.1, right.0, λ d x y. right.2 d y x) in
    eq-eqb _ _ (sym same ∙ eqb-true _ _ is)

abs-neg : (z : ℤ) → unsigned_abs (neg_ℤ z) ≡ unsigned_abs z
abs-neg z = omega (arith, ints)

-- a level axis by its parts
level_from : (x y : ℤ) → are_coprime (unsigned_abs x) (unsigned_abs y) ≡ true
    → nat_le (unsigned_abs x) longest_step ≡ true → nat_le (unsigned_abs y) longest_step ≡ true
    → is_level_axis (record { x = x; y = y; z = pos 0 }) ≡ true
level_from x y coprime x_in y_in = and_from _ _ (and_from _ _ coprime x_in) y_in

-- an axis is told by its vector
axis_is : (a : Axis) (v : Vector) → axis_vector a ≡ v → a ≡ record { x = v.x; y = v.y; z = v.z }
axis_is a v is = ap (λ t. record { x = t.x; y = t.y; z = t.z }) is

-- what stands on the right of a direction is a level axis
pub right_is_axis : (d : Direction) (is_along : Bool) (a : Axis)
    → axis_vector a ≡ right_of (flat (arrow_along d)) is_along
    → IsTrue (is_level_axis a || is_upright_axis a)
right_is_axis d is_along a is =
    or_left _ _
    (ap is_level_axis (axis_is a (right_of (flat (arrow_along d)) is_along) is) ∙ by is_along)
  where
    last : (nat_le (unsigned_abs d.x) longest_step ≡ true)
        × ((nat_le (unsigned_abs d.y) longest_step ≡ true)
        × (are_coprime (unsigned_abs d.y) (unsigned_abs d.x) ≡ true))
    last =
        let one = and_parts _ (nat_le (unsigned_abs d.y) longest_step) d.is_direction in
        let two = and_parts _ (nat_le (unsigned_abs d.x) longest_step) one.0 in
        let three = and_parts _ (is_forward d.x d.y) two.0 in
        (two.1, (one.1, coprime_turned (unsigned_abs d.x) (unsigned_abs d.y) three.0))

    by : (b : Bool)
        → is_level_axis
        (record {
          x = (right_of (flat (arrow_along d)) b).x;
          y = (right_of (flat (arrow_along d)) b).y;
          z = (right_of (flat (arrow_along d)) b).z;
        }) ≡ true
    by true = level_from d.y (neg_ℤ d.x) (rw (abs-neg d.x) last.1.1) last.1.0 (rw (abs-neg d.x) last.0)
    by false = level_from (neg_ℤ d.y) d.x (rw (abs-neg d.y) last.1.1) (rw (abs-neg d.y) last.1.0) last.0

-- for the calls that pass signed numbers on
pub ruleset facings = (to_z-of_z)
