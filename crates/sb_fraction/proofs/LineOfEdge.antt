-- In the frame of a direction the points on the line of an edge are the points on its line over the
-- direction.

use Rattle.std.proofs.Common.{◌≡◌, ◌∙◌, ap, sym, refl, arith, ℤ}
use Rattle.std.proofs.Common.{pos, neg_ℤ, ◌<ℤ◌, ◌≤ℤ◌, ◌+ℤ◌, ◌-ℤ◌, ◌*ℤ◌}
use Rattle.std.proofs.Common.{Bool, true, false, if◌then◌else◌}
use Rattle.std.proofs.lemmas.Int.{ints, by_lt_z}
use Rattle.theory_numbers.specs.Tests.{is_positive}
use Rattle.theory_numbers.specs.Arrows.{Arrow, arrow, cross, dot, opposite}
use Rattle.theory_numbers.proofs.Vectors.Arrows.{opposite-cross, dot_comm, opposite-dot}
use Rattle.theory_numbers.proofs.Vectors.ThreeTerms.{frame_cross}
use Rattle.theory_numbers.proofs.Ring.{mul-sub, mul_comm, mul_assoc}
use Rattle.theory_numbers.proofs.Signs.{less_from, not_less_from}
use Rattle.theory_numbers.proofs.Shapes.{var, minus, times, equal}
use Rattle.theory_plane.specs.Sides.{IsLineSide}
use Rattle.theory_plane.specs.Points.{rise}
use Rattle.sb_fraction.specs.Spots.{Spot}
use Rattle.sb_fraction.specs.Edges.{Edge, span_of, seen_from}
use Rattle.sb_fraction.specs.Lines.{place, in_frame, span_along, line_over}

seen_way : (s a : Arrow) (x y w : ℤ)
    → (cross s (arrow x y)) -ℤ (cross s a *ℤ w)
    ≡ cross (arrow ((a.x *ℤ w) -ℤ x) ((a.y *ℤ w) -ℤ y)) s
unfolding cross
seen_way s a x y w =
    equal
    (minus (minus (times (var s.x) (var y)) (times (var s.y) (var x)))
    (times (minus (times (var s.x) (var a.y)) (times (var s.y) (var a.x))) (var w)))
    (minus (times (minus (times (var a.x) (var w)) (var x)) (var s.y))
    (times (minus (times (var a.y) (var w)) (var y)) (var s.x)))
    (omega arith)

-- how far a point lies above the line of an edge is how far the edge's beginning turns from it,
-- times d·d
pub rise-line_over : (d : Arrow) (e : Edge) (p : Spot)
    → rise (line_over d e) (in_frame d p)
    ≡ dot d d *ℤ cross (seen_from p e.a) (span_along d e)
rise-line_over d e p =
    let s = span_along d e in
    let at = arrow p.x p.y in
    let frame = frame_cross d s at in
    let moment = mul_assoc (dot d d) (cross s (place e.a)) p.w in
    let spread = mul-sub (dot d d) (cross s at) (cross s (place e.a) *ℤ p.w) in
    let way = ap (λ n. dot d d *ℤ n) (seen_way s (place e.a) p.x p.y p.w) in
    omega (arith, ints)

-- an edge that does not stand at right angles to the direction has a line over it
pub line_over-IsLineSide : (d : Arrow) (e : Edge) → (dot d (span_of e) ≡ pos 0 → ⊥)
    → IsLineSide (line_over d e)
unfolding span_along
line_over-IsLineSide d e moves = from (is_positive (dot d (span_of e))) refl
  where
    below : (z t : ℤ) → z ≤ℤ pos 0 → (z ≡ pos 0 → ⊥) → t ≡ neg_ℤ z → pos 0 <ℤ t
    below z t low other same =
        by_lt_z (pos 0) t (λ above. above) (λ high. absurd (other (omega (arith, ints))))

    from : (b : Bool) → is_positive (dot d (span_of e)) ≡ b
        → pos 0 <ℤ dot d (if b then span_of e else opposite (span_of e))
    from true answer = less_from (pos 0) (dot d (span_of e)) answer
    from false answer =
        let low = not_less_from (pos 0) (dot d (span_of e)) answer in
        let turned = dot_comm d (opposite (span_of e)) in
        let sign = opposite-dot (span_of e) d in
        let back = dot_comm (span_of e) d in
        below (dot d (span_of e)) (dot d (opposite (span_of e))) low moves
        (omega (arith, ints))
