-- The length of a vector, its inner product with itself: 0 for the vector 0 alone, else above 0. And
-- vectors on one line through the origin.
use Rattle.std.proofs.Common.{◌≡◌, ◌⊎◌, inl, inr, refl, ap, ap₂, sym, ◌∙◌, arith, subst}
use Rattle.std.proofs.Common.{Bool, true, false, not}
use Rattle.std.proofs.Common.{pos, neg_ℤ, ◌<ℤ◌, ◌≤ℤ◌, ◌+ℤ◌, ◌-ℤ◌, ◌*ℤ◌}
use Rattle.std.proofs.lemmas.Int.{ints, by_lt_z}
use Rattle.theory_numbers.specs.Tests.{is_positive}
use Rattle.theory_numbers.specs.Arrows.{Arrow, cross, dot}
use Rattle.theory_numbers.proofs.Vectors.Arrows.{cross-turn, dot_comm}
use Rattle.theory_numbers.proofs.Shapes.{var, num, minus, times, equal, cross_is, dot_is}
use Rattle.theory_numbers.proofs.Shapes.{dot_eq}
use Rattle.theory_numbers.proofs.Products.{positive_product, negative_product, product_of_negatives}
use Rattle.theory_numbers.proofs.Products.{weak_square, positive_square, square_of_zero}
use Rattle.theory_numbers.proofs.Products.{positive_factor, negative_factor, same_signs}
use Rattle.theory_numbers.proofs.Products.{weak_negative_product, weak_negative_factor}
use Rattle.theory_numbers.proofs.Products.{weak_product_of_negatives, zero_of_positive}
use Rattle.theory_numbers.proofs.Ring.{mul_comm, mul-zero, neg-mul, zero-mul}
use Rattle.theory_numbers.proofs.Signs.{less_from, not_less_from, test_less, test_not_less}
use Rattle.theory_numbers.proofs.Signs.{sign_cases}
use Rattle.theory_numbers.proofs.Vectors.ThreeTerms.{cycle, frame_dot}

-- ---- lengths

-- it is at least 0
pub weak_length : (a : Arrow) → pos 0 ≤ℤ dot a a
weak_length a =
    let x = weak_square a.x in
    let y = weak_square a.y in
    let spread = dot_eq a a in
    omega (arith, ints)

-- at most 0, for the vector 0 alone
pub no_length : (a : Arrow) → dot a a ≤ℤ pos 0 → (a.x ≡ pos 0) × (a.y ≡ pos 0)
no_length a short =
    let x = weak_square a.x in
    let y = weak_square a.y in
    let spread = dot_eq a a in
    (square_of_zero a.x (omega (arith, ints)), square_of_zero a.y (omega (arith, ints)))

-- which has the length 0
pub length_of_zero : (a : Arrow) → a.x ≡ pos 0 → a.y ≡ pos 0 → dot a a ≡ pos 0
length_of_zero a x_none y_none =
    let spread : dot a a ≡ (pos 0 *ℤ pos 0) +ℤ (pos 0 *ℤ pos 0) =
    dot_eq a a ∙ ap₂ (λ s t. (s *ℤ s) +ℤ (t *ℤ t)) x_none y_none in
    omega (arith, ints)

-- where it is not 0 it is above 0
pub some_length : (a : Arrow) → (dot a a ≡ pos 0 → ⊥) → pos 0 <ℤ dot a a
some_length a some =
    let weak = weak_length a in
    by_lt_z (pos 0) (dot a a) (λ above. above) (λ low. absurd (some (omega (arith, ints))))

-- a vector is long that has a product other than 0 with a long one
pub long_from : (d s : Arrow) → (dot d s ≡ pos 0 → ⊥) → pos 0 <ℤ dot d d → pos 0 <ℤ dot s s
long_from d s apart d_long =
    let whole = frame_dot d s s in
    let square = positive_square (dot d s) apart in
    let other = weak_square (cross d s) in
    positive_factor (dot d d) (dot s s) d_long (omega (arith, ints))

-- so are two vectors with a cross product other than 0
pub long_if_crossed : (a b : Arrow) → (cross a b ≡ pos 0 → ⊥)
    → (pos 0 <ℤ dot a a) × (pos 0 <ℤ dot b b)
long_if_crossed a b apart =
    from
    (same_signs (dot a a) (dot b b)
    (let whole = frame_dot a b b in
    let square = positive_square (cross a b) apart in
    let other = weak_square (dot a b) in
    omega (arith, ints)))
  where
    from : ((pos 0 <ℤ dot a a) × (pos 0 <ℤ dot b b))
        ⊎ ((dot a a <ℤ pos 0) × (dot b b <ℤ pos 0))
        → (pos 0 <ℤ dot a a) × (pos 0 <ℤ dot b b)
    from (inl both) = both
    from (inr none) =
        let weak = weak_length a in
        let below = none.0 in
        absurd (omega (arith, ints))

-- ---- two vectors on one line

-- the second sees a third vector as the first does, but for a factor
pub seen_by : (a b g : Arrow) → cross a b ≡ pos 0 → dot a a *ℤ cross b g ≡ dot a b *ℤ cross a g
seen_by a b g line =
    whole ∙ ap (λ n. (dot a b *ℤ cross a g) -ℤ (n *ℤ dot a g)) line ∙ left
  where
    whole : dot a a *ℤ cross b g ≡ (dot a b *ℤ cross a g) -ℤ (cross a b *ℤ dot a g)
    whole =
        equal (times (dot_is a a) (cross_is b g))
        (minus (times (dot_is a b) (cross_is a g)) (times (cross_is a b) (dot_is a g)))
        (omega arith)

    left : (dot a b *ℤ cross a g) -ℤ (pos 0 *ℤ dot a g) ≡ dot a b *ℤ cross a g
    left =
        equal (minus (times (var (dot a b)) (var (cross a g))) (times (num 0) (var (dot a g))))
        (times (var (dot a b)) (var (cross a g))) (omega arith)

-- so a third on the line of the first lies on that of the second
pub on_both_lines : (a b g : Arrow) → cross a b ≡ pos 0 → pos 0 <ℤ dot a a → cross a g ≡ pos 0
    → cross b g ≡ pos 0
on_both_lines a b g line long none =
    zero_of_positive (dot a a) (cross b g) long
    (seen_by a b g line ∙ ap (λ n. dot a b *ℤ n) none ∙ mul-zero (dot a b))

-- two that are not 0 and do not point one way point opposite ways
pub opposite_ways : (a b : Arrow) → cross a b ≡ pos 0 → dot a b ≤ℤ pos 0 → pos 0 <ℤ dot a a
    → pos 0 <ℤ dot b b → dot a b <ℤ pos 0
opposite_ways a b line across long_a long_b =
    by_lt_z (dot a b) (pos 0) (λ below. below) (λ high.
    let none : dot a b ≡ pos 0 = omega (arith, ints) in
    let product = positive_product (dot a a) (dot b b) long_a long_b in
    let whole = frame_dot a b b in
    let squares : (dot a b *ℤ dot a b) +ℤ (cross a b *ℤ cross a b) ≡ pos 0 =
    ap₂ (λ s t. (s *ℤ s) +ℤ (t *ℤ t)) none line in
    absurd (omega (arith, ints)))

-- one sees a vector on the left where the other sees it on the right
pub turns_over : (a b g : Arrow) → cross a b ≡ pos 0 → dot a b <ℤ pos 0 → pos 0 <ℤ dot a a
    → (pos 0 <ℤ cross a g → cross b g <ℤ pos 0) × (cross a g <ℤ pos 0 → pos 0 <ℤ cross b g)
turns_over a b g line across long =
    let same = seen_by a b g line in (
      λ left. negative_factor (dot a a) (cross b g) long
          (subst (λ n. n <ℤ pos 0) (sym same) (opposite_product left)),
      λ right. positive_factor (dot a a) (cross b g) long
          (subst (λ n. pos 0 <ℤ n) (sym same)
          (product_of_negatives (dot a b) (cross a g) across right)),
    )
  where
    opposite_product : pos 0 <ℤ cross a g → (dot a b *ℤ cross a g) <ℤ pos 0
    opposite_product left =
        let product = negative_product (cross a g) (dot a b) left across in
        let turned = mul_comm (dot a b) (cross a g) in
        omega (arith, ints)

-- ---- two vectors on one line, and a ray

opposed_left : (r a b : Arrow) → pos 0 <ℤ cross r a → cross r b ≤ℤ pos 0 → cross a b ≡ pos 0
    → dot a b ≤ℤ pos 0
opposed_left r a b left right level =
    let round = cycle r a b a in
    let low = weak_negative_product (dot a a) (cross r b) (weak_length a) right in
    let none : cross a b *ℤ dot r a ≡ pos 0 =
    ap (λ n. n *ℤ dot r a) level ∙ zero-mul (dot r a) in
    let turn : cross b r *ℤ dot a a ≡ neg_ℤ (cross r b *ℤ dot a a) =
    ap (λ n. n *ℤ dot a a) (cross-turn r b) ∙ neg-mul (cross r b) (dot a a) in
    let swap = mul_comm (dot a a) (cross r b) in
    let same : cross r a *ℤ dot b a ≡ cross r a *ℤ dot a b =
    ap (λ n. cross r a *ℤ n) (dot_comm b a) in
    weak_negative_factor (cross r a) (dot a b) left (omega (arith, ints))

-- two vectors on one line through the origin, on different sides of a ray or one of them on its
-- line, point in opposite directions, or one is 0
pub opposed : (r a b : Arrow) (s t : Bool) → is_positive (cross r a) ≡ s
    → is_positive (cross r b) ≡ t → s ≡ not t → cross a b ≡ pos 0 → dot a b ≤ℤ pos 0
opposed r a b true false a_bit b_bit relation level =
    opposed_left r a b (less_from (pos 0) (cross r a) a_bit)
    (not_less_from (pos 0) (cross r b) b_bit) level
opposed r a b false true a_bit b_bit relation level =
    let turn = cross-turn a b in
    let same = dot_comm a b in
    let swapped =
    opposed_left r b a (less_from (pos 0) (cross r b) b_bit)
    (not_less_from (pos 0) (cross r a) a_bit) (omega (arith, ints))
    in
    omega (arith, ints)
opposed r a b true true a_bit b_bit relation level = cc
opposed r a b false false a_bit b_bit relation level = cc

-- and where they point in opposite directions, none of them on its line, they lie on different sides
pub parted : (r a b : Arrow) → cross a b ≡ pos 0 → dot a b ≤ℤ pos 0 → (cross r a ≡ pos 0 → ⊥)
    → (cross r b ≡ pos 0 → ⊥) → is_positive (cross r a) ≡ not (is_positive (cross r b))
parted r a b level near off_a off_b = from (sign_cases (cross r a)) (sign_cases (cross r b))
  where
    same : dot a a *ℤ cross b r ≡ dot a b *ℤ cross a r
    same = seen_by a b r level

    long : pos 0 <ℤ dot a a
    long = (long_if_crossed r a off_a).1

    both_left : pos 0 <ℤ cross r a → pos 0 <ℤ cross r b → ⊥
    both_left left_a left_b =
        let turn_a = cross-turn r a in
        let turn_b = cross-turn r b in
        let one = negative_product (dot a a) (cross b r) long (omega (arith, ints)) in
        let other =
        weak_product_of_negatives (dot a b) (cross a r) near (omega (arith, ints)) in
        absurd (omega (arith, ints, same))

    both_right : cross r a <ℤ pos 0 → cross r b <ℤ pos 0 → ⊥
    both_right right_a right_b =
        let turn_a = cross-turn r a in
        let turn_b = cross-turn r b in
        let one = positive_product (dot a a) (cross b r) long (omega (arith, ints)) in
        let swap = mul_comm (dot a b) (cross a r) in
        let other = weak_negative_product (cross a r) (dot a b) (omega (arith, ints)) near in
        absurd (omega (arith, ints, same))

    from : ((pos 0 <ℤ cross r a) ⊎ (cross r a ≡ pos 0)) ⊎ (cross r a <ℤ pos 0)
        → ((pos 0 <ℤ cross r b) ⊎ (cross r b ≡ pos 0)) ⊎ (cross r b <ℤ pos 0)
        → is_positive (cross r a) ≡ not (is_positive (cross r b))
    from (inl (inl left_a)) (inl (inl left_b)) = absurd (both_left left_a left_b)
    from (inl (inl left_a)) (inl (inr none)) = absurd (off_b none)
    from (inl (inl left_a)) (inr right_b) =
        rw (
          test_less (pos 0) (cross r a) left_a,
          test_not_less (pos 0) (cross r b) (omega (arith, ints)),
        ) refl
    from (inl (inr none)) side = absurd (off_a none)
    from (inr right_a) (inl (inl left_b)) =
        rw (
          test_less (pos 0) (cross r b) left_b,
          test_not_less (pos 0) (cross r a) (omega (arith, ints)),
        ) refl
    from (inr right_a) (inl (inr none)) = absurd (off_b none)
    from (inr right_a) (inr right_b) = absurd (both_right right_a right_b)
