-- The patches by which corners are tried are patches.

use Rattle.std.proofs.Common.{ℤ, pos, negsuc, ◌≡◌, ◌≤◌, ◌&&◌, true, IsTrue, refl, rules, FitsSigned, w32, nat_le, unsigned_abs, le_trans, lit≤}
use Rattle.std.proofs.lemmas.Int.{to_z-of_z}
use Rattle.std.proofs.lemmas.Bool.{and_from, le-leb}
use Rattle.theory_numbers.specs.Arrows.{cross, dot}
use Rattle.theory_numbers.specs.Divisors.{greatest_divisor, divisor_within}
use Rattle.theory_numbers.specs.Fractions.{Ratio, reduced}
use Rattle.theory_plane.specs.Sides.{LineSide, line, level, clearance}
use Rattle.theory_plane.specs.Regions.{Region, is_region}
use Rattle.sb_fraction.specs.Plane.{is_direction}
use Rattle.sb_fraction.specs.Bounds.{greatest_crossing, greatest_cross}
use Rattle.sb_model.specs.declared.faces.face.FaceKind.{FaceKind}
use Rattle.sb_model.specs.declared.faces.face.FaceKind.TheVariants as kind
use Rattle.sb_model.specs.declared.faces.face.Side.{Side}
use Rattle.sb_model.specs.declared.faces.face.Side.TheVariants.{Height}
use Rattle.sb_model.specs.Surfaces.Sides.{line_of, arrow_of, is_side_of, is_abscissa_size, is_patch}

-- directions
pub along_x_is : IsTrue (is_direction (pos 1) (pos 0))
unfolding greatest_divisor divisor_within
along_x_is = refl

pub steep_is : IsTrue (is_direction (pos 1) (pos 2))
unfolding greatest_divisor divisor_within
steep_is = refl

pub falling_is : IsTrue (is_direction (pos 1) (negsuc 0))
unfolding greatest_divisor divisor_within
falling_is = refl

region : Ratio → Ratio → LineSide → LineSide → Region
region low high lower upper = record { low = arrow_of low; high = arrow_of high; lower = lower; upper = upper }

-- a patch by the values of its ends and sides
patch_by : (k : FaceKind) (low high l h : Ratio) (lower upper : Side) (a b : LineSide)
    → low ≡ l → high ≡ h → line_of lower ≡ a → line_of upper ≡ b
    → is_side_of k lower ≡ true → is_side_of k upper ≡ true
    → (is_abscissa_size l && is_abscissa_size h) ≡ true → is_region (region l h a b) ≡ true
    → is_patch k low high lower upper ≡ true
unfolding region
patch_by k low high l h lower upper a b low_is high_is a_is b_is lower_in upper_in sizes is =
    and_from _ _ (rw (low_is, high_is) sizes)
    (and_from _ _ (and_from _ _ lower_in upper_in) (rw (low_is, high_is, a_is, b_is) is))

-- left of the crossing of y = 2·x and y = 10 - x
pub left_is : (k : FaceKind) (low high : Ratio) (lower upper : Side) → k ≡ kind.Top
    → low ≡ reduced (pos 0) (pos 1) → high ≡ reduced (pos 10) (pos 3)
    → line_of lower ≡ line (pos 1) (pos 0) (pos 0) → line_of upper ≡ line (pos 1) (pos 2) (pos 0)
    → is_side_of kind.Top lower ≡ true → is_side_of kind.Top upper ≡ true
    → is_patch k low high lower upper ≡ true
unfolding greatest_divisor divisor_within reduced cross dot clearance region
left_is k low high lower upper top low_is high_is a_is b_is lower_in upper_in =
    rw top (patch_by kind.Top low high (reduced (pos 0) (pos 1)) (reduced (pos 10) (pos 3)) lower upper
    (line (pos 1) (pos 0) (pos 0)) (line (pos 1) (pos 2) (pos 0)) low_is high_is a_is b_is lower_in upper_in refl refl)

-- right of it
pub right_is : (k : FaceKind) (low high : Ratio) (lower upper : Side) → k ≡ kind.Top
    → low ≡ reduced (pos 10) (pos 3) → high ≡ reduced (pos 5) (pos 1)
    → line_of lower ≡ line (pos 1) (negsuc 0) (pos 10) → line_of upper ≡ line (pos 1) (pos 2) (pos 0)
    → is_side_of kind.Top lower ≡ true → is_side_of kind.Top upper ≡ true
    → is_patch k low high lower upper ≡ true
unfolding greatest_divisor divisor_within reduced cross dot clearance region
right_is k low high lower upper top low_is high_is a_is b_is lower_in upper_in =
    rw top (patch_by kind.Top low high (reduced (pos 10) (pos 3)) (reduced (pos 5) (pos 1)) lower upper
    (line (pos 1) (negsuc 0) (pos 10)) (line (pos 1) (pos 2) (pos 0)) low_is high_is a_is b_is lower_in upper_in refl refl)

-- a side between two heights
pub side_is : (low high : Ratio) → low ≡ reduced (negsuc 999) (pos 1) → high ≡ reduced (pos 1000) (pos 1)
    → is_patch (kind.Side 1) low high (Height (pos 0)) (Height (pos 2500)) ≡ true
unfolding greatest_divisor divisor_within reduced cross dot clearance region
side_is low high low_is high_is =
    patch_by (kind.Side 1) low high (reduced (negsuc 999) (pos 1)) (reduced (pos 1000) (pos 1)) (Height (pos 0)) (Height (pos 2500))
    (level (pos 0)) (level (pos 2500)) low_is high_is refl refl refl refl refl refl

-- numbers of 32 bits are those of a point
pub numbers_of_point : (x y w : ℤ) → FitsSigned w32 x → FitsSigned w32 y → FitsSigned w32 w
    → (nat_le (unsigned_abs x) greatest_crossing && (nat_le (unsigned_abs y) greatest_crossing
    && nat_le (unsigned_abs w) greatest_cross)) ≡ true
numbers_of_point x y w x_in y_in w_in =
    and_from _ _ (le-leb _ _ (le_trans (fits_size x x_in) (lit≤ tt)))
    (and_from _ _ (le-leb _ _ (le_trans (fits_size y y_in) (lit≤ tt)))
    (le-leb _ _ (le_trans (fits_size w w_in) (lit≤ tt))))
  where
    fits_size : (z : ℤ) → FitsSigned w32 z → unsigned_abs z ≤ 2147483648
    fits_size z fits = search rules

-- for points
pub ruleset points = (to_z-of_z, numbers_of_point)
