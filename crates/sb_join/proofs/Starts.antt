-- Which of two patches that begin at one abscissa is the lower one, by the numbers of their sides.
use Rattle.std.proofs.Common.{◌≡◌, refl, sym, ◌∙◌, ap, ap₂, subst, inl, inr, ◌⊎◌, arith, ℤ, pos, neg_ℤ}
use Rattle.std.proofs.Common.{◌+ℤ◌, ◌-ℤ◌, ◌*ℤ◌, ◌<ℤ◌, true, ◌&&◌, unsigned_abs}
use Rattle.std.specs.Prelude.{nat_le, int_lt}
use Rattle.std.specs.Ordering.{int_cmp, ordering_then}
use Rattle.std.proofs.lemmas.Int.{ints}
use Rattle.std.proofs.lemmas.Bool.{and_parts, false≢true, leb-true}
use Rattle.theory_numbers.specs.Arrows.{Arrow, arrow, cross, dot}
use Rattle.theory_numbers.specs.Divisors.{are_coprime}
use Rattle.theory_numbers.proofs.Products.{positive_product}
use Rattle.theory_numbers.proofs.Ring.{mul_comm, mul-zero, mul-neg}
use Rattle.theory_numbers.proofs.Signs.{sign_cases}
use Rattle.theory_plane.specs.Sides.{LineSide, line, clearance, clearance_at, value_on}
use Rattle.theory_plane.proofs.Clearance.{cross-value_on}
use Rattle.theory_plane.proofs.SameSide.{same_line}
use Rattle.sb_fraction.specs.Numbers.{order_of}
use Rattle.sb_fraction.specs.Plane.{is_forward, longest_step}
use Rattle.sb_model.specs.declared.boundary.Cell.{Cell}
use Rattle.sb_model.specs.declared.faces.face.FaceKind.{FaceKind}
use Rattle.sb_model.specs.declared.faces.face.FaceKind.TheVariants as kind
use Rattle.sb_model.specs.declared.faces.face.Side.{Side}
use Rattle.sb_model.specs.declared.faces.face.Side.TheVariants.{OnLine, Height}
use Rattle.sb_model.specs.declared.patches.patch.Patch.{Patch}
use Rattle.sb_model.specs.Surfaces.Sides.{arrow_of, line_of, is_side_of, greatest_offset}
use Rattle.theory_faces.specs.Strips.{strip_of}
use Rattle.theory_faces.proofs.PatchesAreRegions.{patch_is}
use Rattle.sb_join.specs.Sizes.{HasHeight, HasSizes}
use Rattle.sb_join.specs.Listing.{order_of_starts}
use Rattle.sb_join.proofs.TwoInOne.{parts_of}

-- ---- sizes

side_sizes : (k : FaceKind) (side : Side) → is_side_of k side ≡ true → HasHeight side
    → HasSizes (line_of side)
side_sizes k (OnLine l) fits height =
    let front = are_coprime (unsigned_abs l.dir.x) (unsigned_abs l.dir.y)
    && is_forward l.dir.x l.dir.y in
    let first =
    and_parts (front && nat_le (unsigned_abs l.dir.x) longest_step)
    (nat_le (unsigned_abs l.dir.y) longest_step) l.dir.is_direction
    in
    let second = and_parts front (nat_le (unsigned_abs l.dir.x) longest_step) first.0 in
    record {
      dx = leb-true _ _ second.1;
      dy = leb-true _ _ first.1;
      off = leb-true _ _ (offset k fits);
    }
  where
    offset : (j : FaceKind) → is_side_of j (OnLine l) ≡ true
        → nat_le (unsigned_abs l.off) greatest_offset ≡ true
    offset kind.Bottom is =
        (and_parts (int_lt (pos 0) l.dir.x) (nat_le (unsigned_abs l.off) greatest_offset) is).1
    offset kind.Top is =
        (and_parts (int_lt (pos 0) l.dir.x) (nat_le (unsigned_abs l.off) greatest_offset) is).1
    offset (kind.Side j) is = absurd (false≢true is)
side_sizes k (Height h) fits height =
    record { dx = omega arith; dy = omega arith; off = omega (arith, height) }

-- the numbers of the lower side of a patch are within their bounds
pub numbers_have_sizes : (p : Patch) (dx dy off : ℤ) → dx ≡ (line_of p.lower).dx
    → dy ≡ (line_of p.lower).dy → off ≡ (line_of p.lower).off → HasHeight p.lower
    → HasSizes (line dx dy off)
numbers_have_sizes p dx dy off dx_is dy_is off_is height =
    subst HasSizes (sym (same_line (line dx dy off) (line_of p.lower) dx_is dy_is off_is))
    (side_sizes p.face.kind p.lower (parts_of p).lower height)

-- ---- the order

-- a positive factor does not change the order with 0
order_of_multiple : (x k : ℤ) → pos 0 <ℤ x → int_cmp (pos 0) (x *ℤ k) ≡ int_cmp (pos 0) k
order_of_multiple x k x_in = from (sign_cases k)
  where
    less : (n : ℤ) → pos 0 <ℤ n → int_cmp (pos 0) n ≡ int_cmp (pos 0) (pos 1)
    less n above = grind (arith, ints)

    greater : (n : ℤ) → n <ℤ pos 0 → int_cmp (pos 0) n ≡ int_cmp (pos 1) (pos 0)
    greater n below = grind (arith, ints)

    from : ((pos 0 <ℤ k) ⊎ (k ≡ pos 0)) ⊎ (k <ℤ pos 0)
        → int_cmp (pos 0) (x *ℤ k) ≡ int_cmp (pos 0) k
    from (inl (inl above)) =
        less (x *ℤ k) (positive_product x k x_in above) ∙ sym (less k above)
    from (inl (inr none)) =
        ap (int_cmp (pos 0)) (ap (λ n. x *ℤ n) none ∙ mul-zero x) ∙ sym (ap (int_cmp (pos 0)) none)
    from (inr below) =
        let product = positive_product x (neg_ℤ k) x_in (omega (arith, ints)) in
        let turned = mul-neg x k in
        greater (x *ℤ k) (omega (arith, ints)) ∙ sym (greater k below)

clearance_by_numbers : (l m : LineSide) (u : Arrow)
    → (((m.off *ℤ l.dx) -ℤ (l.off *ℤ m.dx)) *ℤ u.x) +ℤ (((m.dy *ℤ l.dx) -ℤ (l.dy *ℤ m.dx)) *ℤ u.y)
    ≡ clearance_at l m u
unfolding clearance dot
clearance_by_numbers l m u = refl

slope_by_numbers : (l m : LineSide)
    → (m.dy *ℤ l.dx) -ℤ (l.dy *ℤ m.dx) ≡ cross (arrow l.dx l.dy) (arrow m.dx m.dy)
unfolding cross
slope_by_numbers l m = ap (λ n. n -ℤ (l.dy *ℤ m.dx)) (mul_comm m.dy l.dx)

-- the gap at the abscissa and the slope tell the order
pub order_by_gap : (a b : Cell) (shift slope gap : ℤ) → a.patch.low ≡ b.patch.low
    → shift ≡ ((line_of b.patch.lower).off *ℤ (line_of a.patch.lower).dx)
    -ℤ ((line_of a.patch.lower).off *ℤ (line_of b.patch.lower).dx)
    → slope ≡ ((line_of b.patch.lower).dy *ℤ (line_of a.patch.lower).dx)
    -ℤ ((line_of a.patch.lower).dy *ℤ (line_of b.patch.lower).dx)
    → gap ≡ (shift *ℤ a.patch.low.den) +ℤ (slope *ℤ a.patch.low.num)
    → ordering_then (int_cmp (pos 0) gap) (int_cmp (pos 0) slope)
    ≡ order_of_starts (strip_of a) (strip_of b)
order_by_gap a b shift slope gap low shift_is slope_is gap_is =
    let l = line_of a.patch.lower in
    let m = line_of b.patch.lower in
    let u = arrow_of a.patch.low in
    let whole : gap ≡ clearance_at l m u =
    gap_is
    ∙ ap₂ (λ s t. (s *ℤ a.patch.low.den) +ℤ (t *ℤ a.patch.low.num)) shift_is slope_is
    ∙ clearance_by_numbers l m u in
    ap₂ ordering_then
    (ap (int_cmp (pos 0)) whole
    ∙ sym (order_of_multiple u.x (clearance_at l m u) (patch_is a.patch).region.low_in)
    ∙ ap (int_cmp (pos 0)) (sym (cross-value_on l m u))
    ∙ ap (λ w. order_of (value_on l u) (value_on m (arrow_of w))) low)
    (ap (int_cmp (pos 0)) (slope_is ∙ slope_by_numbers l m))
