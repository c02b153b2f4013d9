-- A point lies on the line of an edge exactly where it lies on that line in the frame of a
-- direction.

use Rattle.std.proofs.Common.{◌≡◌, refl, sym, ap, ap₂, ◌∙◌, arith, pos, neg_ℤ, ◌-ℤ◌, ◌*ℤ◌}
use Rattle.std.proofs.Common.{Bool, true, false}
use Rattle.std.specs.Ordering.{int_eq}
use Rattle.std.proofs.lemmas.Int.{ints}
use Rattle.theory_numbers.specs.Tests.{is_positive}
use Rattle.theory_numbers.specs.Arrows.{Arrow, arrow, cross, dot, opposite}
use Rattle.theory_numbers.proofs.Vectors.Arrows.{opposite-cross}
use Rattle.theory_numbers.proofs.Signs.{same_equal}
use Rattle.theory_numbers.proofs.Products.{zero_of_positive}
use Rattle.theory_numbers.proofs.Multiples.{equality_of_multiples}
use Rattle.theory_numbers.proofs.Ring.{mul_assoc, mul-zero, neg-mul}
use Rattle.theory_numbers.proofs.Vectors.ThreeTerms.{frame_cross}
use Rattle.theory_plane.specs.Sides.{line}
use Rattle.theory_plane.specs.Points.{is_on_side}
use Rattle.sb_fraction.specs.declared.point.Point.{Point}
use Rattle.sb_fraction.specs.Spots.{Spot, IsSpot}
use Rattle.sb_fraction.specs.Edges.{Edge, span_of, turn_at}
use Rattle.sb_fraction.specs.Lines.{place, in_frame, span_along, line_over}
use Rattle.theory_parity.specs.Below.{IsWay}
use Rattle.theory_parity.proofs.Rays.InsideByBelow.{turn_by_span}

-- on the line of the vector s through a, in the frame of d
on_by_vector : (d s : Arrow) (a : Point) (p : Spot) → IsWay d
    → is_on_side (line (dot d s) (cross d s) (dot d d *ℤ cross s (place a))) (in_frame d p)
    ≡ int_eq (cross s (arrow p.x p.y)) (cross s (place a) *ℤ p.w)
on_by_vector d s a p d_is =
    let at = arrow p.x p.y in
    ap₂ int_eq (sym (frame_cross d s at)) (mul_assoc (dot d d) (cross s (place a)) p.w)
    ∙ equality_of_multiples (dot d d) (cross s at) (cross s (place a) *ℤ p.w) d_is

-- on the line of an edge it lies exactly where it lies on that of its vector
on_by_span : (p : Spot) (e : Edge) → IsSpot p
    → int_eq (cross (span_of e) (arrow p.x p.y)) (cross (span_of e) (place e.a) *ℤ p.w)
    ≡ int_eq (turn_at e p) (pos 0)
on_by_span p e p_is =
    let low = cross (span_of e) (place e.a) *ℤ p.w in
    let high = cross (span_of e) (arrow p.x p.y) in
    let whole = turn_by_span p e in
    same_equal high low (turn_at e p) (pos 0)
    (λ same.
    let none : high -ℤ low ≡ pos 0 = omega (arith, ints) in
    whole ∙ ap (λ t. p.w *ℤ t) none ∙ mul-zero p.w)
    (λ level.
    let none = zero_of_positive p.w (high -ℤ low) p_is (sym whole ∙ level) in
    omega (arith, ints))

-- and on that of the opposite vector
on_by_opposite : (p : Spot) (e : Edge) → IsSpot p
    → int_eq (cross (opposite (span_of e)) (arrow p.x p.y))
    (cross (opposite (span_of e)) (place e.a) *ℤ p.w)
    ≡ int_eq (turn_at e p) (pos 0)
on_by_opposite p e p_is =
    let low = cross (span_of e) (place e.a) *ℤ p.w in
    let high = cross (span_of e) (arrow p.x p.y) in
    let turned_low : cross (opposite (span_of e)) (place e.a) *ℤ p.w ≡ neg_ℤ low =
    ap (λ n. n *ℤ p.w) (opposite-cross (span_of e) (place e.a))
    ∙ neg-mul (cross (span_of e) (place e.a)) p.w in
    let turned_high = opposite-cross (span_of e) (arrow p.x p.y) in
    same_equal (cross (opposite (span_of e)) (arrow p.x p.y))
    (cross (opposite (span_of e)) (place e.a) *ℤ p.w) high low
    (λ same. omega (arith, ints)) (λ same. omega (arith, ints))
    ∙ on_by_span p e p_is

-- a point lies on the line of an edge exactly where it lies on that line in the frame of d
pub on_line_over : (d : Arrow) (p : Spot) (e : Edge) → IsWay d → IsSpot p
    → is_on_side (line_over d e) (in_frame d p) ≡ int_eq (turn_at e p) (pos 0)
unfolding span_along
on_line_over d p e d_is p_is = by (is_positive (dot d (span_of e))) refl
  where
    by : (b : Bool) → is_positive (dot d (span_of e)) ≡ b
        → is_on_side (line_over d e) (in_frame d p) ≡ int_eq (turn_at e p) (pos 0)
    by true along = rw along (on_by_vector d (span_of e) e.a p d_is ∙ on_by_span p e p_is)
    by false against =
        rw against
        (on_by_vector d (opposite (span_of e)) e.a p d_is ∙ on_by_opposite p e p_is)
