-- Worked numbers: each identity once, and each choice of a number computed. Wrong ones are refused.
use Rattle.std.proofs.Common.{◌≡◌, refl, arith, true, false, List, [], ◌∷◌, map, ℤ, pos, negsuc}
use Rattle.std.proofs.Common.{◌≤◌, ◌+ℤ◌, ◌-ℤ◌, ◌*ℤ◌, ◌<ℤ◌, ◌≤ℤ◌}
use Rattle.std.proofs.lemmas.Int.{ints}
use Rattle.std.proofs.Math.Nat.{dvd-mul_right, le_of_dvd}
use Rattle.theory_numbers.specs.Tests.{is_positive}
use Rattle.theory_lists.specs.Parity.{is_odd_number}
use Rattle.theory_numbers.specs.Arrows.{Arrow, arrow, cross, dot}
use Rattle.theory_numbers.specs.Rationals.{rational, IsSame, is_below, mediant}
use Rattle.theory_numbers.specs.Rationals.{zero_of, value_at, form_of}
use Rattle.theory_numbers.specs.Intervals.{changes_sign, clear_end, clear_start, another}
use Rattle.theory_numbers.specs.Reduced.{IsReduced}
use Rattle.theory_numbers.proofs.Shapes.{var, num, plus, times, equal}
use Rattle.theory_numbers.proofs.Vectors.ThreeTerms.{three_terms, three_terms_linear, cycle, cycle_x}
use Rattle.theory_numbers.proofs.Vectors.ThreeTerms.{cycle_y, frame_cross, frame_dot}
use Rattle.theory_numbers.proofs.Products.{scale_less, positive_factor}
use Rattle.theory_numbers.proofs.Fractions.Rationals.{between, one_zero}
use Rattle.theory_numbers.proofs.Fractions.Avoid.{IsAnother, another_is}
use Rattle.theory_numbers.proofs.Fractions.Reduced.{reduced_unique, whole_is_reduced}
use Rattle.theory_numbers.proofs.SignTables.{hit_of}

-- ---- identities

-- the vectors (1, 2), (3, -1), (2, 5) and (-4, 1)
abbrev one : Arrow
one = arrow (pos 1) (pos 2)

abbrev two : Arrow
two = arrow (pos 3) (negsuc 0)

abbrev three : Arrow
three = arrow (pos 2) (pos 5)

abbrev four : Arrow
four = arrow (negsuc 3) (pos 1)

-- -7 · 22 = 1 · -1 - 9 · 17
three_terms_on_numbers : negsuc 6 *ℤ pos 22 ≡ (pos 1 *ℤ negsuc 0) -ℤ (pos 9 *ℤ pos 17)
unfolding cross
three_terms_on_numbers = three_terms one two three four

-- the form (2, -1) has the values 0, 7 and -1 at the first three: 1 · 7 = 17 · 0 + -7 · -1
three_terms_linear_on_numbers : pos 1 *ℤ pos 7 ≡ (pos 17 *ℤ pos 0) +ℤ (negsuc 6 *ℤ negsuc 0)
unfolding cross dot
three_terms_linear_on_numbers = three_terms_linear (arrow (pos 2) (negsuc 0)) one two three

-- -14 + 17 - 3 = 0
cycle_x_on_numbers
    : (negsuc 6 *ℤ pos 2) +ℤ (pos 17 *ℤ pos 1) +ℤ (negsuc 0 *ℤ pos 3) ≡ pos 0
unfolding cross
cycle_x_on_numbers = cycle_x one two three

-- -35 + 34 + 1 = 0
cycle_y_on_numbers
    : (negsuc 6 *ℤ pos 5) +ℤ (pos 17 *ℤ pos 2) +ℤ (negsuc 0 *ℤ negsuc 0) ≡ pos 0
unfolding cross
cycle_y_on_numbers = cycle_y one two three

-- 21 - 34 + 13 = 0
cycle_on_numbers
    : (negsuc 6 *ℤ negsuc 2) +ℤ (pos 17 *ℤ negsuc 1) +ℤ (negsuc 0 *ℤ negsuc 12) ≡ pos 0
unfolding cross dot
cycle_on_numbers = cycle one two three four

-- 5 · 17 = 1 · 1 - -7 · 12
frame_cross_on_numbers : pos 5 *ℤ pos 17 ≡ (pos 1 *ℤ pos 1) -ℤ (negsuc 6 *ℤ pos 12)
unfolding cross dot
frame_cross_on_numbers = frame_cross one two three

-- 5 · 1 = 1 · 12 + -7 · 1
frame_dot_on_numbers : pos 5 *ℤ pos 1 ≡ (pos 1 *ℤ pos 12) +ℤ (negsuc 6 *ℤ pos 1)
unfolding cross dot
frame_dot_on_numbers = frame_dot one two three

-- an identity of one's own: its two shapes, and `omega` multiplies out
square_of_sum : (a b : ℤ)
    → (a +ℤ b) *ℤ (a +ℤ b) ≡ (a *ℤ a) +ℤ (pos 2 *ℤ (a *ℤ b)) +ℤ (b *ℤ b)
square_of_sum a b =
    equal (times (plus (var a) (var b)) (plus (var a) (var b)))
    (plus (plus (times (var a) (var a)) (times (num 2) (times (var a) (var b))))
    (times (var b) (var b)))
    (omega arith)

-- -8 · -8 = 9 + 2 · 15 + 25
square_of_sum_on_numbers : negsuc 7 *ℤ negsuc 7 ≡ (pos 9 +ℤ (pos 2 *ℤ pos 15)) +ℤ pos 25
square_of_sum_on_numbers = square_of_sum (negsuc 2) (negsuc 4)

-- ---- signs

-- 3 · a > 0 leaves a > 0
factor_taken_away : (a : ℤ) → pos 0 <ℤ (pos 3 *ℤ a) → pos 0 <ℤ a
factor_taken_away a h = positive_factor (pos 3) a (omega (arith, ints)) h

-- a < b gives 3 · a < 3 · b
factor_put_in : (a b : ℤ) → a <ℤ b → (pos 3 *ℤ a) <ℤ (pos 3 *ℤ b)
factor_put_in a b h = scale_less (pos 3) a b (omega (arith, ints)) h

-- ---- rational numbers

-- 1/3 and 2/6 are one number and two vectors
thirds : IsSame (rational (pos 1) (pos 3)) (rational (pos 2) (pos 6))
unfolding cross
thirds = refl

-- 2/5 lies below 3/7, and not the other way round
fifths_below : is_below (rational (pos 2) (pos 5)) (rational (pos 3) (pos 7)) ≡ true
unfolding cross
fifths_below = refl

sevenths_not_below : is_below (rational (pos 3) (pos 7)) (rational (pos 2) (pos 5)) ≡ false
unfolding cross
sevenths_not_below = refl

-- -1/2 lies below 0
negative_below : is_below (rational (negsuc 0) (pos 2)) (rational (pos 0) (pos 1)) ≡ true
unfolding cross
negative_below = refl

-- 2/5 lies between 1/3 and 1/2
mediant_of
    : mediant (rational (pos 1) (pos 3)) (rational (pos 1) (pos 2)) ≡ rational (pos 2) (pos 5)
mediant_of = refl

-- 2N - D is 0 at 1/2 and 1 at 1, so it is at least 0 at 2/3
between_on_numbers : pos 0 ≤ℤ value_at (arrow (negsuc 0) (pos 2)) (rational (pos 2) (pos 3))
unfolding cross dot
between_on_numbers =
    between (arrow (negsuc 0) (pos 2)) (rational (pos 1) (pos 2)) (rational (pos 2) (pos 3))
    (rational (pos 1) (pos 1)) (omega (arith, ints)) (omega (arith, ints)) (omega (arith, ints))
    (omega (arith, ints)) (omega (arith, ints))

-- it is 0 at 1/2 and at 2/4: one number
one_zero_on_numbers : IsSame (rational (pos 1) (pos 2)) (rational (pos 2) (pos 4))
unfolding dot
one_zero_on_numbers =
    one_zero (arrow (negsuc 0) (pos 2)) (rational (pos 1) (pos 2)) (rational (pos 2) (pos 4))
    (λ zero. let none = zero.1 in omega (arith, ints)) refl refl

-- 4N - 3D is 0 at 3/4, and so is 3D - 4N
zero_of_rising : zero_of (arrow (negsuc 2) (pos 4)) ≡ rational (pos 3) (pos 4)
zero_of_rising = refl

zero_of_falling : zero_of (arrow (pos 3) (negsuc 3)) ≡ rational (pos 3) (pos 4)
zero_of_falling = refl

-- it changes its sign between 1/2 and 1, and not between 0 and 1/2
changes
    : changes_sign (arrow (negsuc 2) (pos 4)) (rational (pos 1) (pos 2)) (rational (pos 1) (pos 1))
    ≡ true
unfolding dot
changes = refl

does_not_change
    : changes_sign (arrow (negsuc 2) (pos 4)) (rational (pos 0) (pos 1)) (rational (pos 1) (pos 2))
    ≡ false
unfolding dot
does_not_change = refl

-- ---- a number between 1/3 and 1/2 that is none of 2/5, 3/7 and 3/8

abbrev low : Arrow
low = rational (pos 1) (pos 3)

abbrev high : Arrow
high = rational (pos 1) (pos 2)

abbrev taken : List Arrow
taken = rational (pos 2) (pos 5) ∷ rational (pos 3) (pos 7) ∷ rational (pos 3) (pos 8) ∷ []

-- up to 3/8 none of them is met
clear_up_to : clear_end low high (map form_of taken) ≡ rational (pos 3) (pos 8)
unfolding cross dot
clear_up_to = refl

-- from 3/7 on none of them is met
clear_down_to : clear_start low high (map form_of taken) ≡ rational (pos 3) (pos 7)
unfolding cross dot
clear_down_to = refl

-- 4/11 is found
found : another low high taken ≡ rational (pos 4) (pos 11)
unfolding cross dot
found = refl

-- and lies strictly between, apart from the three
found_is : IsAnother low high taken (another low high taken)
unfolding cross
found_is =
    another_is low high (omega (arith, ints)) (omega (arith, ints)) (omega (arith, ints)) taken
    (omega (arith, ints), (omega (arith, ints), (omega (arith, ints), tt)))

-- ---- reduced fractions

-- 6/8 is not reduced
six_eighths : IsReduced (pos 6) (pos 8) → ⊥
six_eighths reduced =
    not_below
    (le_of_dvd (omega arith)
    (reduced.no_divisor.2 2 (dvd-mul_right 2 3) (dvd-mul_right 2 4)))
  where
    not_below : 2 ≤ 1 → ⊥
    not_below h = omega arith

-- 7/1 is, and no other reduced fraction is 7
seven_is : (num den : ℤ) → IsReduced num den → num *ℤ pos 1 ≡ pos 7 *ℤ den
    → (num ≡ pos 7) × (den ≡ pos 1)
seven_is num den reduced same =
    reduced_unique num den (pos 7) (pos 1) reduced (whole_is_reduced (pos 7)) same

-- ---- tests

-- of 1, -2, 3 and 5 an odd number is above 0, of 1, -2 and 3 an even one
odd_above : is_odd_number is_positive (pos 1 ∷ negsuc 1 ∷ pos 3 ∷ pos 5 ∷ []) ≡ true
odd_above = refl

even_above : is_odd_number is_positive (pos 1 ∷ negsuc 1 ∷ pos 3 ∷ []) ≡ false
even_above = refl

-- an edge with its later end left of the ray is hit from the one side, and not from the other
hit_from_one_side : hit_of false true true false ≡ true
hit_from_one_side = refl

not_from_the_other : hit_of false true false true ≡ false
not_from_the_other = refl
