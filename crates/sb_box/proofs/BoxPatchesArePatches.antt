-- A patch between whole abscissae and level lines or heights is a patch.
use Rattle.std.proofs.Common.{◌≡◌, ◌≤◌, ◌<ℤ◌, ◌+ℤ◌, ◌-ℤ◌, ◌*ℤ◌, ℕ, ℤ, pos, true, false, refl, arith}
use Rattle.std.proofs.Common.{IsTrue, ap}
use Rattle.std.specs.Ordering.{int_eq}
use Rattle.std.specs.Prelude.{unsigned_abs, int_lt, int_le, nat_le}
use Rattle.std.proofs.lemmas.Int.{ints, to_z-of_z}
use Rattle.std.proofs.lemmas.Bool.{and_from, and_parts, and_left, not_from_false, leb-true, le-leb}
use Rattle.theory_numbers.specs.Divisors.{greatest_divisor, divisor_within}
use Rattle.sb_fraction.specs.Bounds.{greatest_num}
use Rattle.sb_fraction.specs.Plane.{is_direction, is_coordinate, greatest_coordinate}
use Rattle.theory_numbers.specs.Fractions.{Ratio, whole}
use Rattle.theory_numbers.specs.Arrows.{cross, dot}
use Rattle.theory_numbers.specs.Rationals.{is_below}
use Rattle.theory_plane.specs.Sides.{level, clearance, clearance_at}
use Rattle.theory_plane.specs.Regions.{is_region}
use Rattle.sb_model.specs.Surfaces.Sides.{is_abscissa_size, is_side_of, is_patch, line_of, arrow_of}
use Rattle.sb_model.specs.Surfaces.Sides.{region_between, greatest_offset, greatest_abscissa_num}
use Rattle.sb_model.specs.declared.faces.face.FaceKind.{FaceKind}
use Rattle.sb_model.specs.declared.faces.face.FaceKind.TheVariants as kind
use Rattle.sb_model.specs.declared.faces.face.Side.{Side}
use Rattle.sb_model.specs.declared.faces.face.Side.TheVariants.{OnLine, Height}
use Rattle.theory_numbers.proofs.Fractions.GreatestDivisor.{coprime-one}
use Rattle.theory_numbers.proofs.Fractions.LowestTerms.{reduced-one}
use Rattle.theory_numbers.proofs.Signs.{test_less, less_from}
use Rattle.sb_box.specs.declared.extent.Extent.{Extent}
use Rattle.sb_box.specs.BoxList.{is_cut, IsLevelFace}
use Rattle.sb_box.specs.Extents.{is_interval}

-- the direction of level lines
pub east_is_direction : IsTrue (is_direction (pos 1) (pos 0))
unfolding greatest_divisor divisor_within
east_is_direction = refl

at_most_trans : (n a b : ℕ) → nat_le n a ≡ true → a ≤ b → nat_le n b ≡ true
at_most_trans n a b left right = le-leb n b (omega (arith, leb-true n a left))

-- a coordinate in range is an abscissa
pub whole_is_abscissa : (x : ℤ) → is_coordinate x ≡ true
    → is_abscissa_size (whole x) ≡ true
whole_is_abscissa x near =
    and_from _ _
    (and_from _ _ (and_from _ _ refl (coprime-one (unsigned_abs x)))
    (and_from _ _ (at_most_trans _ greatest_coordinate greatest_num near (omega arith)) refl))
    (and_from _ _ (at_most_trans _ greatest_coordinate greatest_abscissa_num near (omega arith))
    refl)

-- the order of whole numbers is that of their fractions
pub whole_is_less : (x y : ℤ) → int_lt x y ≡ true
    → is_below (arrow_of (whole x)) (arrow_of (whole y)) ≡ true
unfolding cross
whole_is_less x y less = test_less _ _ (apart x y (less_from x y less))
  where
    apart : (a b : ℤ) → a <ℤ b → pos 0 <ℤ ((pos 1 *ℤ b) -ℤ (a *ℤ pos 1))
    apart a b h = omega (arith, ints)

not_below : (z : ℤ) → pos 0 <ℤ z → int_le (pos 0) z ≡ true
not_below z h = grind (arith, ints)

not_zero : (z : ℤ) → pos 0 <ℤ z → int_eq z (pos 0) ≡ false
not_zero z h = grind (arith, ints)

clearance_of_levels : (v w u : ℤ) → v <ℤ w
    → pos 0 <ℤ clearance_at (level v) (level w) (arrow_of (whole u))
unfolding clearance dot
clearance_of_levels v w u less = apart v w u less
  where
    apart : (a b c : ℤ) → a <ℤ b
        → pos 0 <ℤ ((((b *ℤ pos 1) -ℤ (a *ℤ pos 1)) *ℤ pos 1)
        +ℤ (((pos 0 *ℤ pos 1) -ℤ (pos 0 *ℤ pos 1)) *ℤ c))
    apart a b c h = omega (arith, ints)

-- two whole abscissae and a lower and a higher level line bound a region
pub levels_are_region : (v w low high : ℤ) (lower upper : Side) → line_of lower ≡ level v
    → line_of upper ≡ level w
    → int_lt v w ≡ true → int_lt low high ≡ true
    → is_region (region_between (whole low) (whole high) lower upper) ≡ true
levels_are_region v w low high lower upper lower_is upper_is up along =
    let left : pos 0 <ℤ clearance_at (level v) (level w) (arrow_of (whole low)) =
    clearance_of_levels v w low (less_from v w up) in
    let right : pos 0 <ℤ clearance_at (level v) (level w) (arrow_of (whole high)) =
    clearance_of_levels v w high (less_from v w up) in
    rw (lower_is, upper_is)
    (and_from _ _ refl (and_from _ _ refl (and_from _ _ (whole_is_less low high along)
    (and_from _ _ (and_from _ _ (not_below _ left) (not_below _ right))
    (not_from_false _ (and_left _ _ (not_zero _ left)))))))

-- the parts of an interval
pub interval_less : (low high : ℤ) → IsTrue (is_interval low high) → int_lt low high ≡ true
interval_less low high h = (and_parts _ _ (and_parts _ _ h).0).0

-- its lower end is in range
pub interval_low : (low high : ℤ) → IsTrue (is_interval low high)
    → is_coordinate low ≡ true
interval_low low high h = (and_parts _ _ (and_parts _ _ h).0).1

-- its upper end is in range
pub interval_high : (low high : ℤ) → IsTrue (is_interval low high)
    → is_coordinate high ≡ true
interval_high low high h = (and_parts _ _ h).1

-- between two sides of this kind that are a lower and a higher level line stands a patch
pub is_patch_between : (face : FaceKind) (x y v w : ℤ) (low high : Ratio) (lower upper : Side)
    → IsTrue (is_interval x y) → IsTrue (is_interval v w)
    → low ≡ whole x → high ≡ whole y
    → is_side_of face lower ≡ true → is_side_of face upper ≡ true
    → line_of lower ≡ level v → line_of upper ≡ level w
    → IsTrue (is_patch face low high lower upper)
is_patch_between face x y v w low high lower upper across along low_is high_is lower_fits upper_fits
    lower_is upper_is =
    rw (low_is, high_is)
    (and_from _ _
    (and_from _ _ (whole_is_abscissa x (interval_low x y across))
    (whole_is_abscissa y (interval_high x y across)))
    (and_from _ _ (and_from _ _ lower_fits upper_fits)
    (levels_are_region v w x y lower upper lower_is upper_is (interval_less v w along)
    (interval_less x y across))))

-- between two heights of a side face stands a patch
pub is_patch_between_heights : (k : ℕ) (x y v w below above : ℤ) (low high : Ratio)
    → IsTrue (is_interval x y) → IsTrue (is_interval v w)
    → low ≡ whole x → high ≡ whole y → below ≡ v → above ≡ w
    → IsTrue (is_patch (kind.Side k) low high (Height below) (Height above))
is_patch_between_heights k x y v w below above low high across along low_is high_is below_is
    above_is =
    is_patch_between (kind.Side k) x y v w low high (Height below) (Height above) across along
    low_is high_is refl refl (ap level below_is) (ap level above_is)

-- the three intervals of a box
pub x_is_interval : (e : Extent) → IsTrue (is_interval e.x0 e.x1)
x_is_interval e = (and_parts _ _ (and_parts _ _ e.is_extent).0).0

-- along y
pub y_is_interval : (e : Extent) → IsTrue (is_interval e.y0 e.y1)
y_is_interval e = (and_parts _ _ (and_parts _ _ e.is_extent).0).1

-- along z
pub z_is_interval : (e : Extent) → IsTrue (is_interval e.z0 e.z1)
z_is_interval e = (and_parts _ _ e.is_extent).1

-- the ground cuts an interval of heights into two
pub lower_part_is_interval : (low high : ℤ) → IsTrue (is_interval low high)
    → IsTrue (is_cut low high)
    → IsTrue (is_interval low (pos 0))
lower_part_is_interval low high h cut =
    and_from _ _ (and_from _ _ (and_parts _ _ cut).0 (interval_low low high h)) refl

-- the part above the ground
pub upper_part_is_interval : (low high : ℤ) → IsTrue (is_interval low high)
    → IsTrue (is_cut low high)
    → IsTrue (is_interval (pos 0) high)
upper_part_is_interval low high h cut =
    and_from _ _ (and_from _ _ (and_parts _ _ cut).1 refl) (interval_high low high h)

-- the line (1, 0) at an offset in range is a side of a level face
pub level_is_side : (v : ℤ) → IsTrue (is_coordinate v)
    → nat_le (unsigned_abs v) greatest_offset ≡ true
level_is_side v near = at_most_trans _ greatest_coordinate greatest_offset near (omega arith)

-- a side of Bottom is one of Top
pub side_of_level_face : (face : FaceKind) (side : Side) → IsLevelFace face
    → IsTrue (is_side_of kind.Bottom side) → IsTrue (is_side_of face side)
side_of_level_face kind.Bottom side flat fits = fits
side_of_level_face kind.Top (OnLine l) flat fits = fits
side_of_level_face kind.Top (Height h) flat fits = fits
side_of_level_face (kind.Side k) side flat fits = absurd flat

-- for the body that makes a whole number a fraction
pub ruleset wholes = (to_z-of_z, reduced-one)
