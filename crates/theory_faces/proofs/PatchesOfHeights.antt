-- Between two whole abscissae and two heights stands a patch of a side.
use Rattle.std.proofs.Common.{◌≡◌, ◌≤◌, ◌<ℤ◌, ◌+ℤ◌, ◌-ℤ◌, ◌*ℤ◌, ℕ, ℤ, pos, true, false, refl, arith, IsTrue}
use Rattle.std.specs.Ordering.{int_eq}
use Rattle.std.specs.Prelude.{unsigned_abs, int_le, nat_le}
use Rattle.std.proofs.lemmas.Int.{ints}
use Rattle.std.proofs.lemmas.Bool.{and_from, and_left, not_from_false, leb-true, le-leb}
use Rattle.theory_numbers.specs.Arrows.{cross, dot}
use Rattle.theory_numbers.specs.Fractions.{Ratio, whole}
use Rattle.theory_numbers.specs.Rationals.{is_below}
use Rattle.theory_numbers.proofs.Fractions.GreatestDivisor.{coprime-one}
use Rattle.theory_numbers.proofs.Signs.{test_less}
use Rattle.theory_plane.specs.Sides.{level, clearance, clearance_at}
use Rattle.sb_fraction.specs.Bounds.{greatest_num}
use Rattle.sb_fraction.specs.Plane.{is_coordinate, greatest_coordinate}
use Rattle.sb_model.specs.declared.faces.face.FaceKind.TheVariants as kind
use Rattle.sb_model.specs.declared.faces.face.Side.TheVariants.{Height}
use Rattle.sb_model.specs.Surfaces.Sides.{is_abscissa_size, is_patch, arrow_of}
use Rattle.sb_model.specs.Surfaces.Sides.{greatest_abscissa_num}

at_most_trans : (n a b : ℕ) → nat_le n a ≡ true → a ≤ b → nat_le n b ≡ true
at_most_trans n a b left right = le-leb n b (omega (arith, leb-true n a left))

whole_is_abscissa : (x : ℤ) → is_coordinate x ≡ true → is_abscissa_size (whole x) ≡ true
whole_is_abscissa x near =
    and_from _ _
    (and_from _ _ (and_from _ _ refl (coprime-one (unsigned_abs x)))
    (and_from _ _ (at_most_trans _ greatest_coordinate greatest_num near (omega arith)) refl))
    (and_from _ _ (at_most_trans _ greatest_coordinate greatest_abscissa_num near (omega arith))
    refl)

whole_is_less : (x y : ℤ) → x <ℤ y → is_below (arrow_of (whole x)) (arrow_of (whole y)) ≡ true
unfolding cross
whole_is_less x y less = test_less _ _ (apart x y less)
  where
    apart : (a b : ℤ) → a <ℤ b → pos 0 <ℤ ((pos 1 *ℤ b) -ℤ (a *ℤ pos 1))
    apart a b h = omega (arith, ints)

not_below : (z : ℤ) → pos 0 <ℤ z → int_le (pos 0) z ≡ true
not_below z h = grind (arith, ints)

not_zero : (z : ℤ) → pos 0 <ℤ z → int_eq z (pos 0) ≡ false
not_zero z h = grind (arith, ints)

clearance_of_levels : (v w u : ℤ) → v <ℤ w
    → pos 0 <ℤ clearance_at (level v) (level w) (arrow_of (whole u))
unfolding clearance dot
clearance_of_levels v w u less = apart v w u less
  where
    apart : (a b c : ℤ) → a <ℤ b
        → pos 0 <ℤ ((((b *ℤ pos 1) -ℤ (a *ℤ pos 1)) *ℤ pos 1)
        +ℤ (((pos 0 *ℤ pos 1) -ℤ (pos 0 *ℤ pos 1)) *ℤ c))
    apart a b c h = omega (arith, ints)

-- between two whole abscissae in range and two heights stands a patch of a side
pub is_patch_of_heights : (k : ℕ) (x y v w : ℤ) (low high : Ratio) → is_coordinate x ≡ true
    → is_coordinate y ≡ true → x <ℤ y → v <ℤ w → low ≡ whole x → high ≡ whole y
    → IsTrue (is_patch (kind.Side k) low high (Height v) (Height w))
is_patch_of_heights k x y v w low high x_in y_in along up low_is high_is =
    let left = clearance_of_levels v w x up in
    let right = clearance_of_levels v w y up in
    rw (low_is, high_is)
    (and_from _ _
    (and_from _ _ (whole_is_abscissa x x_in) (whole_is_abscissa y y_in))
    (and_from _ _ refl
    (and_from _ _ refl (and_from _ _ refl (and_from _ _ (whole_is_less x y along)
    (and_from _ _ (and_from _ _ (not_below _ left) (not_below _ right))
    (not_from_false _ (and_left _ _ (not_zero _ left)))))))))
