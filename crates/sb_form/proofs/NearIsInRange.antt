-- A box whose doubled coordinates are near has its coordinates in range.
use Rattle.std.proofs.Common.{◌≡◌, ◌+ℤ◌, ◌-ℤ◌, ℤ, pos, Bool, true, false, ◌&&◌, arith}
use Rattle.std.specs.Prelude.{int_lt}
use Rattle.std.proofs.lemmas.Int.{ints}
use Rattle.sb_box.specs.Extents.{is_interval}
use Rattle.sb_form.specs.Meaning.{has_shape, is_near, is_near_about, is_near_up, is_even, half}
use Rattle.sb_form.specs.declared.matcher.FirstForm.{FirstForm}

-- from half an even size below a coordinate to half of it above
pub about_is_interval : (m s : ℤ) → int_lt (pos 0) s ≡ true → is_near_about m s ≡ true
    → is_even s ≡ true
    → is_interval (m -ℤ half s) (m +ℤ half s) ≡ true
about_is_interval m s shape near grid = grind (arith, ints)

-- from a height up by another
pub up_is_interval : (z h : ℤ) → int_lt (pos 0) h ≡ true → is_near_up z h ≡ true
    → is_interval z (z +ℤ h) ≡ true
up_is_interval z h shape near = grind (arith, ints)

second_is_true : (a b : Bool) → (a && b) ≡ true → b ≡ true
second_is_true true b both = both
second_is_true false b both = absurd (cc both)

-- the parts of the tests of a form
pub height_is_positive : (f : FirstForm) → has_shape f ≡ true → int_lt (pos 0) f.height ≡ true
height_is_positive f shape = second_is_true _ _ (second_is_true _ _ shape)

-- the heights of a form that is in range are so
pub heights_are_near : (f : FirstForm) → is_near f ≡ true → is_near_up f.z f.height ≡ true
heights_are_near f near = second_is_true _ _ (second_is_true _ _ near)
