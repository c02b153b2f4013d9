-- The patches of the rows are patches.

use Rattle.std.proofs.Common.{pos, negsuc, ◌≡◌, ◌&&◌, true, IsTrue, refl}
use Rattle.std.proofs.lemmas.Bool.{and_from}
use Rattle.theory_numbers.specs.Arrows.{cross, dot}
use Rattle.theory_numbers.specs.Divisors.{greatest_divisor, divisor_within}
use Rattle.theory_numbers.specs.Fractions.{Ratio, reduced, whole}
use Rattle.theory_plane.specs.Sides.{LineSide, line, level, clearance}
use Rattle.theory_plane.specs.Regions.{Region, is_region}
use Rattle.sb_fraction.specs.Plane.{is_direction}
use Rattle.sb_model.specs.declared.faces.face.FaceKind.{FaceKind}
use Rattle.sb_model.specs.declared.faces.face.FaceKind.TheVariants as kind
use Rattle.sb_model.specs.declared.faces.face.Side.{Side}
use Rattle.sb_model.specs.declared.faces.face.Side.TheVariants.{Height}
use Rattle.sb_model.specs.Surfaces.Sides.{line_of, arrow_of, is_side_of, is_abscissa_size, is_patch}

-- a direction
pub along_x_is : IsTrue (is_direction (pos 1) (pos 0))
unfolding greatest_divisor divisor_within
along_x_is = refl

region : Ratio → Ratio → LineSide → LineSide → Region
region low high lower upper = record { low = arrow_of low; high = arrow_of high; lower = lower; upper = upper }

-- a patch by the values of its ends and sides
patch_by : (k : FaceKind) (low high l h : Ratio) (lower upper : Side) (a b : LineSide)
    → low ≡ l → high ≡ h → line_of lower ≡ a → line_of upper ≡ b
    → is_side_of k lower ≡ true → is_side_of k upper ≡ true
    → (is_abscissa_size l && is_abscissa_size h) ≡ true → is_region (region l h a b) ≡ true
    → is_patch k low high lower upper ≡ true
unfolding region
patch_by k low high l h lower upper a b low_is high_is a_is b_is lower_in upper_in sizes is =
    and_from _ _ (rw (low_is, high_is) sizes)
    (and_from _ _ (and_from _ _ lower_in upper_in) (rw (low_is, high_is, a_is, b_is) is))

-- a level face over [0,4000], [0,3000]
pub level_is : (k : FaceKind) (low high : Ratio) (lower upper : Side) → low ≡ whole (pos 0)
    → high ≡ whole (pos 4000) → line_of lower ≡ line (pos 1) (pos 0) (pos 0)
    → line_of upper ≡ line (pos 1) (pos 0) (pos 3000) → is_side_of k lower ≡ true
    → is_side_of k upper ≡ true → is_patch k low high lower upper ≡ true
unfolding greatest_divisor divisor_within cross dot clearance region
level_is k low high lower upper low_is high_is a_is b_is lower_in upper_in =
    patch_by k low high (whole (pos 0)) (whole (pos 4000)) lower upper (line (pos 1) (pos 0) (pos 0))
    (line (pos 1) (pos 0) (pos 3000)) low_is high_is a_is b_is lower_in upper_in refl refl

-- a part of a side that begins at half a nanometre
pub half_is : (low high : Ratio) → low ≡ reduced (pos 1) (pos 2000000) → high ≡ reduced (pos 4000) (pos 1)
    → is_patch (kind.Side 0) low high (Height (pos 0)) (Height (pos 2500)) ≡ true
unfolding greatest_divisor divisor_within reduced cross dot clearance region
half_is low high low_is high_is =
    patch_by (kind.Side 0) low high (reduced (pos 1) (pos 2000000)) (reduced (pos 4000) (pos 1))
    (Height (pos 0)) (Height (pos 2500)) (level (pos 0)) (level (pos 2500)) low_is high_is refl refl
    refl refl refl refl

-- and at its negative
pub minus_half_is : (low high : Ratio) → low ≡ reduced (negsuc 0) (pos 2000000)
    → high ≡ reduced (pos 4000) (pos 1)
    → is_patch (kind.Side 0) low high (Height (pos 0)) (Height (pos 2500)) ≡ true
unfolding greatest_divisor divisor_within reduced cross dot clearance region
minus_half_is low high low_is high_is =
    patch_by (kind.Side 0) low high (reduced (negsuc 0) (pos 2000000)) (reduced (pos 4000) (pos 1))
    (Height (pos 0)) (Height (pos 2500)) (level (pos 0)) (level (pos 2500)) low_is high_is refl refl
    refl refl refl refl

-- a part of a side whose corners have great denominators
pub steep_is : (low high : Ratio) → low ≡ reduced (pos 1) (pos 1999998000001)
    → high ≡ reduced (pos 1000000000001) (pos 1999998000001)
    → is_patch (kind.Side 0) low high (Height (pos 0)) (Height (pos 2500)) ≡ true
unfolding greatest_divisor divisor_within reduced cross dot clearance region
steep_is low high low_is high_is =
    patch_by (kind.Side 0) low high (reduced (pos 1) (pos 1999998000001))
    (reduced (pos 1000000000001) (pos 1999998000001)) (Height (pos 0)) (Height (pos 2500))
    (level (pos 0)) (level (pos 2500)) low_is high_is refl refl refl refl refl refl

-- a part below the ground
pub below_is : (low high : Ratio) → low ≡ reduced (pos 0) (pos 1) → high ≡ reduced (pos 4000) (pos 1)
    → is_patch (kind.Side 2) low high (Height (negsuc 999)) (Height (pos 0)) ≡ true
unfolding greatest_divisor divisor_within reduced cross dot clearance region
below_is low high low_is high_is =
    patch_by (kind.Side 2) low high (reduced (pos 0) (pos 1)) (reduced (pos 4000) (pos 1))
    (Height (negsuc 999)) (Height (pos 0)) (level (negsuc 999)) (level (pos 0)) low_is high_is refl refl
    refl refl refl refl

-- two parts of a side of a small slope
pub part_is : (low high : Ratio) → low ≡ reduced (pos 0) (pos 1)
    → high ≡ reduced (pos 8997001) (pos 1)
    → is_patch (kind.Side 2) low high (Height (pos 0)) (Height (pos 2500)) ≡ true
unfolding greatest_divisor divisor_within reduced cross dot clearance region
part_is low high low_is high_is =
    patch_by (kind.Side 2) low high (reduced (pos 0) (pos 1)) (reduced (pos 8997001) (pos 1))
    (Height (pos 0)) (Height (pos 2500)) (level (pos 0)) (level (pos 2500)) low_is high_is refl refl
    refl refl refl refl

pub rest_is : (low high : Ratio) → low ≡ reduced (pos 8997001) (pos 1)
    → high ≡ reduced (pos 9000001) (pos 1)
    → is_patch (kind.Side 2) low high (Height (pos 0)) (Height (pos 2500)) ≡ true
unfolding greatest_divisor divisor_within reduced cross dot clearance region
rest_is low high low_is high_is =
    patch_by (kind.Side 2) low high (reduced (pos 8997001) (pos 1)) (reduced (pos 9000001) (pos 1))
    (Height (pos 0)) (Height (pos 2500)) (level (pos 0)) (level (pos 2500)) low_is high_is refl refl
    refl refl refl refl
