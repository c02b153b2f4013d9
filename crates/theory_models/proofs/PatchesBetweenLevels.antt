-- A point lies in a patch between whole abscissae and levels where its coordinates are between
-- them.
use Rattle.std.proofs.Common.{◌≡◌, refl, arith, ℤ, pos, ◌-ℤ◌, ◌*ℤ◌, Bool, ◌&&◌, int_lt}
use Rattle.std.proofs.lemmas.Int.{ints}
use Rattle.theory_numbers.specs.Arrows.{cross}
use Rattle.theory_numbers.specs.Rationals.{rational, is_below}
use Rattle.theory_numbers.proofs.Signs.{same_less}
use Rattle.theory_numbers.proofs.Ring.{mul_comm}
use Rattle.theory_plane.specs.Sides.{level}
use Rattle.theory_plane.specs.Points.{face_point, is_above_side, is_under_side}
use Rattle.theory_plane.specs.Regions.{is_inside}
use Rattle.sb_model.specs.declared.patches.patch.Patch.{Patch}
use Rattle.theory_numbers.specs.Fractions.{whole}
use Rattle.sb_model.specs.Surfaces.Sides.{line_of}
use Rattle.sb_model.specs.Surfaces.Patches.{region_of}

-- low < u/w < high and lower < v/w < upper
abbrev pub is_in_window : ℤ → ℤ → ℤ → ℤ → ℤ → ℤ → ℤ → Bool
is_in_window low high lower upper u v w =
    (int_lt (low *ℤ w) u && int_lt u (high *ℤ w)) &&
    (int_lt (lower *ℤ w) v && int_lt v (upper *ℤ w))

below_number : (n u w : ℤ) → is_below (rational n (pos 1)) (rational u w) ≡ int_lt (n *ℤ w) u
unfolding cross
below_number n u w =
    same_less (pos 0) ((pos 1 *ℤ u) -ℤ (n *ℤ w)) (n *ℤ w) u (λ h. omega (arith, ints))
    (λ h. omega (arith, ints))

above_number : (n u w : ℤ) → is_below (rational u w) (rational n (pos 1)) ≡ int_lt u (n *ℤ w)
unfolding cross
above_number n u w =
    same_less (pos 0) ((w *ℤ n) -ℤ (u *ℤ pos 1)) u (n *ℤ w)
    (λ h. let e = mul_comm n w in omega (arith, ints))
    (λ h. let e = mul_comm n w in omega (arith, ints))

above_level : (n u v w : ℤ) → is_above_side (level n) (face_point u v w) ≡ int_lt (n *ℤ w) v
above_level n u v w =
    same_less (n *ℤ w) ((pos 1 *ℤ v) -ℤ (pos 0 *ℤ u)) (n *ℤ w) v (λ h. omega (arith, ints))
    (λ h. omega (arith, ints))

under_level : (n u v w : ℤ) → is_under_side (level n) (face_point u v w) ≡ int_lt v (n *ℤ w)
under_level n u v w =
    same_less ((pos 1 *ℤ v) -ℤ (pos 0 *ℤ u)) (n *ℤ w) v (n *ℤ w) (λ h. omega (arith, ints))
    (λ h. omega (arith, ints))

-- the points of such a patch
pub in_levels : (patch : Patch) (low high lower upper u v w : ℤ)
    → patch.low ≡ whole low → patch.high ≡ whole high
    → line_of patch.lower ≡ level lower → line_of patch.upper ≡ level upper
    → is_inside (region_of patch) (face_point u v w) ≡ is_in_window low high lower upper u v w
in_levels patch low high lower upper u v w low_is high_is lower_is upper_is =
    rw (low_is, high_is, lower_is, upper_is)
    (rw (
      below_number low u w,
      above_number high u w,
      above_level lower u v w,
      under_level upper u v w,
    ) refl)
