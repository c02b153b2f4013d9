-- Single texts and numbers: what the definitions say of them, and what they refuse.
use Rattle.std.proofs.Common.{◌≡◌, refl, ℕ, ℤ, pos, negsuc, ◌^◌, ap, arith, codes}
use Rattle.std.proofs.lemmas.Int.{ints}
use Rattle.std.specs.Fmt.{digits}
use Rattle.theory_numbers.specs.Fractions.{Ratio}
use Rattle.sb_fraction.specs.declared.unit.Unit.TheVariants as unit
use Rattle.sb_fixed.specs.Decimals.{decimal_of}
use Rattle.sb_fixed.specs.Rounding.{scaled, less, IsRounded, rounded}
use Rattle.sb_fixed.specs.Lengths.{nanometres_of, micrometres_of, ratio_of}
use Rattle.sb_fixed.specs.Printed.{scaled_text}

abbrev over : ℤ → ℕ → Ratio
over num den = record { num = num; den = pos den }

-- ---- the number of a text

an_integer : decimal_of (codes "12") ≡ over (pos 12) 1
unfolding decimal_of
an_integer = refl

a_sign_and_zeros : decimal_of (codes "+0012.500") ≡ over (pos 12500) 1000
unfolding decimal_of
a_sign_and_zeros = refl

a_raised_number : decimal_of (codes "-12.50E+3") ≡ over (negsuc 1249999) 100
unfolding decimal_of
a_raised_number = refl

an_exponent_without_sign : decimal_of (codes "1.5E02") ≡ over (pos 1500) 10
unfolding decimal_of
an_exponent_without_sign = refl

a_lowered_number : decimal_of (codes "1.E-99") ≡ over (pos 1) (10 ^ 99)
unfolding decimal_of
a_lowered_number = refl

minus_nothing : decimal_of (codes "-0.") ≡ over (pos 0) 1
unfolding decimal_of
minus_nothing = refl

-- an exponent below zero is not one above
not_raised : decimal_of (codes "1.E-2") ≡ over (pos 100) 1 → ⊥
unfolding decimal_of
not_raised same =
    let num : pos 1 ≡ pos 100 = ap (λ f. f.num) same in
    omega (arith, ints)

-- the last digit counts
not_cut : decimal_of (codes "1.05") ≡ over (pos 10) 10 → ⊥
unfolding decimal_of
not_cut same =
    let num : pos 105 ≡ pos 10 = ap (λ f. f.num) same in
    omega (arith, ints)

-- ---- rounding

a_half : rounded (over (pos 5) 2) ≡ pos 3
unfolding rounded
a_half = refl

a_half_below_zero : rounded (over (negsuc 4) 2) ≡ negsuc 2
unfolding rounded
a_half_below_zero = refl

less_than_half : rounded (over (pos 12) 5) ≡ pos 2
unfolding rounded
less_than_half = refl

a_half_micrometre : rounded (scaled 3 (over (negsuc 0) 2000)) ≡ negsuc 0
unfolding rounded
a_half_micrometre = refl

a_third : rounded (scaled 3 (over (pos 1) 3)) ≡ pos 333
unfolding rounded
a_third = refl

a_shift : rounded (less (pos 500) (scaled 6 (over (pos 1) 2000))) ≡ pos 0
unfolding rounded
a_shift = refl

-- a half is not rounded towards zero
not_towards_zero : IsRounded (over (pos 5) 2) (pos 2) → ⊥
not_towards_zero is = let next = is.greatest 3 (omega arith) in omega arith

-- nor is less than a half rounded up
not_up : IsRounded (over (pos 12) 5) (pos 3) → ⊥
not_up is = let reached = is.reached in omega arith

-- nor does the sign go away
not_turned : IsRounded (over (negsuc 4) 2) (pos 3) → ⊥
not_turned is =
    let above = is.sign.above (omega (arith, ints)) in
    omega (arith, ints)

-- ---- lengths and ratios

a_length : nanometres_of (codes "3.4999999999999996") unit.Metre ≡ pos 3500000000
unfolding decimal_of rounded
a_length = refl

a_small_length : nanometres_of (codes "-0.0000005") unit.Millimetre ≡ negsuc 0
unfolding decimal_of rounded
a_small_length = refl

a_thickness : micrometres_of (codes "12.5") unit.Millimetre ≡ pos 12500
unfolding decimal_of rounded
a_thickness = refl

nearly_nothing : ratio_of (codes "6.12E-17") ≡ pos 0
unfolding decimal_of rounded
nearly_nothing = refl

-- ---- printed

a_millionth : scaled_text (pos 1) 6 ≡ codes "0.000001"
unfolding scaled_text digits
a_millionth = refl

minus_a_millionth : scaled_text (negsuc 0) 6 ≡ codes "-0.000001"
unfolding scaled_text digits
minus_a_millionth = refl

zero_with_places : scaled_text (pos 0) 6 ≡ codes "0.000000"
unfolding scaled_text digits
zero_with_places = refl

twelve_and_a_half : scaled_text (negsuc 12499) 3 ≡ codes "-12.500"
unfolding scaled_text digits
twelve_and_a_half = refl
