-- A signed axis is level or upright, the opposite of an axis is one, and the numbers of both are short.

use Rattle.std.proofs.Common.{◌≡◌, refl, sym, ap, ◌∙◌, ◌⊎◌, inl, inr, ℕ, zero, suc, ◌+◌, ◌≤◌, ℤ, pos, neg_ℤ, Bool, true, false, arith}
use Rattle.std.proofs.Common.{◌&&◌, ◌||◌, IsTrue, unsigned_abs, nat_eq, nat_le, subst}
use Rattle.std.proofs.lemmas.Int.{ints}
use Rattle.std.proofs.lemmas.Bool.{and_parts, and_from, or_left, or_right, or_cases, eqb-true, leb-true}
use Rattle.std.specs.Ordering.{int_eq}
use Rattle.theory_numbers.specs.Divisors.{are_coprime, greatest_divisor, divisor_within}
use Rattle.theory_numbers.proofs.Signs.{same_equal}
use Rattle.theory_turns.specs.Turns.{is_signed_axis}
use Rattle.sb_fraction.specs.Plane.{longest_step}
use Rattle.sb_fraction.specs.Spots.{Vector, vector, opposite}
use Rattle.sb_model.specs.declared.layers.Axis.{Axis}
use Rattle.sb_model.specs.Building.{is_level_axis, is_upright_axis}
use Rattle.sb_model.specs.Labels.{axis_vector, IsShortAxis}

-- an axis of three numbers
abbrev axis : ℤ → ℤ → ℤ → Axis
axis x y z = record { x = x; y = y; z = z }

abbrev is_axis : Axis → Bool
is_axis a = is_level_axis a || is_upright_axis a

-- ---- signed axes

zero_of_size : (z : ℤ) → unsigned_abs z ≡ 0 → int_eq z (pos 0) ≡ true
zero_of_size z none =
    let same : z ≡ pos 0 = omega (arith, ints, none) in subst (λ t. int_eq t (pos 0) ≡ true) (sym same) refl

one_and_none : are_coprime 1 0 ≡ true
unfolding greatest_divisor divisor_within
one_and_none = refl

none_and_one : are_coprime 0 1 ≡ true
unfolding greatest_divisor divisor_within
none_and_one = refl

along_x : (x y z : ℤ) → unsigned_abs x ≡ 1 → unsigned_abs y ≡ 0 → unsigned_abs z ≡ 0
    → is_level_axis (axis x y z) ≡ true
along_x x y z x_is y_is z_is = rw (zero_of_size z z_is, x_is, y_is, one_and_none) refl

along_y : (x y z : ℤ) → unsigned_abs x ≡ 0 → unsigned_abs y ≡ 1 → unsigned_abs z ≡ 0
    → is_level_axis (axis x y z) ≡ true
along_y x y z x_is y_is z_is = rw (zero_of_size z z_is, x_is, y_is, none_and_one) refl

along_z : (x y z : ℤ) → unsigned_abs x ≡ 0 → unsigned_abs y ≡ 0 → unsigned_abs z ≡ 1
    → is_upright_axis (axis x y z) ≡ true
along_z x y z x_is y_is z_is = rw (zero_of_size x x_is, zero_of_size y y_is, z_is) refl

by_sizes : (x y z : ℤ) (a b c : ℕ) → unsigned_abs x ≡ a → unsigned_abs y ≡ b → unsigned_abs z ≡ c
    → a + b + c ≡ 1 → IsTrue (is_axis (axis x y z))
by_sizes x y z zero zero c x_is y_is z_is one =
    or_right _ _ (along_z x y z x_is y_is (z_is ∙ omega (arith, one)))
by_sizes x y z zero (suc b) c x_is y_is z_is one =
    or_left _ _ (along_y x y z x_is (y_is ∙ omega (arith, one)) (z_is ∙ omega (arith, one)))
by_sizes x y z (suc a) b c x_is y_is z_is one =
    or_left _ _
    (along_x x y z (x_is ∙ omega (arith, one)) (y_is ∙ omega (arith, one)) (z_is ∙ omega (arith, one)))

pub signed_is_axis : (a : Axis) → IsTrue (is_signed_axis (axis_vector a)) → IsTrue (is_axis a)
signed_is_axis a is =
    by_sizes a.x a.y a.z (unsigned_abs a.x) (unsigned_abs a.y) (unsigned_abs a.z) refl refl refl
    (eqb-true _ _ is)

-- ---- opposite axes

abs-neg : (z : ℤ) → unsigned_abs (neg_ℤ z) ≡ unsigned_abs z
abs-neg z = omega (arith, ints)

zero-neg : (z : ℤ) → int_eq (neg_ℤ z) (pos 0) ≡ int_eq z (pos 0)
zero-neg z = same_equal (neg_ℤ z) (pos 0) z (pos 0) (λ is. omega (arith, ints, is)) (λ is. omega (arith, ints, is))

level-neg : (x y z : ℤ) → is_level_axis (axis (neg_ℤ x) (neg_ℤ y) (neg_ℤ z)) ≡ is_level_axis (axis x y z)
level-neg x y z = rw (abs-neg x, abs-neg y, zero-neg z) refl

upright-neg : (x y z : ℤ)
    → is_upright_axis (axis (neg_ℤ x) (neg_ℤ y) (neg_ℤ z)) ≡ is_upright_axis (axis x y z)
upright-neg x y z = rw (zero-neg x, zero-neg y, abs-neg z) refl

-- an axis is told by its vector
of_vector : (a : Axis) (v : Vector) → axis_vector a ≡ v → a ≡ axis v.x v.y v.z
of_vector a v is = ap (λ t. axis t.x t.y t.z) is

pub opposite_is_axis : (a r : Axis) → axis_vector r ≡ opposite (axis_vector a) → IsTrue (is_axis a)
    → IsTrue (is_axis r)
opposite_is_axis a r is right =
    subst (λ t. is_axis t ≡ true) (sym (of_vector r (opposite (axis_vector a)) is))
    (both (is_level_axis (axis (neg_ℤ a.x) (neg_ℤ a.y) (neg_ℤ a.z))) (is_level_axis a)
    (is_upright_axis (axis (neg_ℤ a.x) (neg_ℤ a.y) (neg_ℤ a.z))) (is_upright_axis a)
    (level-neg a.x a.y a.z) (upright-neg a.x a.y a.z) right)
  where
    both : (p q s t : Bool) → p ≡ q → s ≡ t → (q || t) ≡ true → (p || s) ≡ true
    both p q s t first second or = rw (first, second) or

-- ---- short axes

pub axis_is_short : (a : Axis) → IsTrue (is_axis a) → IsShortAxis a
axis_is_short a is = by (or_cases (is_level_axis a) (is_upright_axis a) is)
  where
    none : (z : ℤ) → int_eq z (pos 0) ≡ true → unsigned_abs z ≤ longest_step
    none z same = grind (arith, ints)

    one : (z : ℤ) → nat_eq (unsigned_abs z) 1 ≡ true → unsigned_abs z ≤ longest_step
    one z same = let e = eqb-true _ _ same in omega (arith, e)

    by : (is_level_axis a ≡ true) ⊎ (is_upright_axis a ≡ true) → IsShortAxis a
    by (inl level) =
        let first = and_parts _ (nat_le (unsigned_abs a.y) longest_step) level in
        let second = and_parts _ (nat_le (unsigned_abs a.x) longest_step) first.0 in
        let third = and_parts (int_eq a.z (pos 0)) (are_coprime (unsigned_abs a.x) (unsigned_abs a.y)) second.0 in
        record { of_x = leb-true _ _ second.1; of_y = leb-true _ _ first.1; of_z = none a.z third.0 }
    by (inr upright) =
        let first = and_parts _ (nat_eq (unsigned_abs a.z) 1) upright in
        let second = and_parts (int_eq a.x (pos 0)) (int_eq a.y (pos 0)) first.0 in
        record { of_x = none a.x second.0; of_y = none a.y second.1; of_z = one a.z first.1 }
