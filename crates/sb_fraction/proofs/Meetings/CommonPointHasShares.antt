-- A common point of two edges that are not parallel lies on each of them by its share: it is the
-- point where their lines meet.

use Rattle.std.proofs.Common.{◌≡◌, ◌∙◌, ap, ap₂, sym, refl, arith, ℤ, pos, neg_ℤ, ◌≤ℤ◌}
use Rattle.std.proofs.Common.{◌+ℤ◌, ◌-ℤ◌, ◌*ℤ◌, true, int_le}
use Rattle.std.proofs.lemmas.Int.{ints}
use Rattle.std.proofs.lemmas.Bool.{and_parts}
use Rattle.std.specs.Ordering.{int_eq}
use Rattle.std.specs.Cmp.{signed_Decides}
use Rattle.theory_numbers.specs.Arrows.{Arrow, arrow, cross, dot, scale, add}
use Rattle.theory_numbers.proofs.Vectors.Arrows.{same_arrow, cross-self, cross-turn, cross-scale, cross-add}
use Rattle.theory_numbers.proofs.Vectors.Arrows.{add-cross, scale-cross, scale-dot, dot-scale}
use Rattle.theory_numbers.proofs.Vectors.ThreeTerms.{cycle_x, cycle_y}
use Rattle.theory_numbers.proofs.Ring.{zero-mul, mul_assoc, neg-mul}
use Rattle.theory_numbers.proofs.Signs.{test_at_most, at_most_from}
use Rattle.theory_numbers.proofs.Products.{positive_product, positive_square, weak_negative_product}
use Rattle.theory_numbers.proofs.Products.{weak_negative_factor, zero_of_positive}
use Rattle.theory_numbers.proofs.Shapes.{var, plus, minus, times, negated, equal}
use Rattle.sb_fraction.specs.declared.point.Point.{Point}
use Rattle.sb_fraction.specs.Spots.{Spot, IsSpot}
use Rattle.sb_fraction.specs.Edges.{Edge, span_of, seen_from, turn_at, reach_at, is_on}
use Rattle.sb_fraction.specs.Steps.{turn_between, share_of, is_share}
use Rattle.sb_fraction.proofs.Meetings.PointsByShares.{length_if_turned, dot-multiples}

-- the way between two plan points
abbrev pub way : Point → Point → Arrow
way a b = arrow (b.x -ℤ a.x) (b.y -ℤ a.y)

later : (a b x w : ℤ) → (b *ℤ w) -ℤ x ≡ ((a *ℤ w) -ℤ x) +ℤ (w *ℤ (b -ℤ a))
later a b x w =
    equal (minus (times (var b) (var w)) (var x))
    (plus (minus (times (var a) (var w)) (var x)) (times (var w) (minus (var b) (var a))))
    (omega arith)

-- from p one point is seen as another one and the way to it
pub seen_later : (p : Spot) (a b : Point)
    → seen_from p b ≡ add (seen_from p a) (scale p.w (way a b))
seen_later p a b =
    same_arrow (seen_from p b) (add (seen_from p a) (scale p.w (way a b)))
    (later a.x b.x p.x p.w) (later a.y b.y p.y p.w)

-- a turn by a way further on is that of the way alone
cross-further : (v s : Arrow) (w : ℤ) → cross v (add v (scale w s)) ≡ w *ℤ cross v s
cross-further v s w =
    let parts = cross-add v v (scale w s) in
    let same = cross-self v in
    let factor = cross-scale w v s in
    omega (arith, ints)

-- the turn of an edge at a point, by the way to its beginning
pub turn_by_way : (p : Spot) (e : Edge)
    → turn_at e p ≡ p.w *ℤ cross (seen_from p e.a) (span_of e)
turn_by_way p e =
    rw (seen_later p e.a e.b) (cross-further (seen_from p e.a) (span_of e) p.w)

-- a point on the line of an edge is seen from its ends along it
pub along_if_on : (p : Spot) (e : Edge) → IsSpot p → turn_at e p ≡ pos 0
    → cross (seen_from p e.a) (span_of e) ≡ pos 0
along_if_on p e p_in on =
    let turn = turn_by_way p e in
    zero_of_positive p.w (cross (seen_from p e.a) (span_of e)) p_in (omega (arith, ints))

-- a point on the lines of two edges is seen from the first edge as a multiple of its vector
module _ (p : Spot) (e f : Edge) (p_in : IsSpot p)
    (first : turn_at e p ≡ pos 0) (second : turn_at f p ≡ pos 0) where
  seen_across : cross (seen_from p e.a) (span_of f) ≡ neg_ℤ (p.w *ℤ share_of e f)
  seen_across =
      let along = along_if_on p f p_in second in
      let further : cross (seen_from p f.a) (span_of f)
      ≡ cross (add (seen_from p e.a) (scale p.w (way e.a f.a))) (span_of f) =
      rw (seen_later p e.a f.a) refl in
      let parts = add-cross (seen_from p e.a) (scale p.w (way e.a f.a)) (span_of f) in
      let factor = scale-cross p.w (way e.a f.a) (span_of f) in
      omega (arith, ints)

  -- in each coordinate
  coordinate : (v e_part f_part : ℤ)
      → (cross (seen_from p e.a) (span_of e) *ℤ f_part)
      +ℤ (cross (span_of e) (span_of f) *ℤ v)
      +ℤ (cross (span_of f) (seen_from p e.a) *ℤ e_part) ≡ pos 0
      → turn_between e f *ℤ v ≡ neg_ℤ (p.w *ℤ share_of e f) *ℤ e_part
  coordinate v e_part f_part cycle =
      let along = along_if_on p e p_in first in
      let none : cross (seen_from p e.a) (span_of e) *ℤ f_part ≡ pos 0 =
      rw along (zero-mul f_part) in
      let across = seen_across in
      let turn = cross-turn (seen_from p e.a) (span_of f) in
      let same : cross (span_of f) (seen_from p e.a) *ℤ e_part
      ≡ neg_ℤ (neg_ℤ (p.w *ℤ share_of e f)) *ℤ e_part =
      ap (λ n. n *ℤ e_part) (turn ∙ ap neg_ℤ across) in
      let sign = neg-mul (neg_ℤ (p.w *ℤ share_of e f)) e_part in
      omega (arith, ints)

  -- times the cross product of the two vectors it lies the share from the beginning of the first
  pub seen_by_share : scale (turn_between e f) (seen_from p e.a)
      ≡ scale (neg_ℤ (p.w *ℤ share_of e f)) (span_of e)
  seen_by_share =
      same_arrow (scale (turn_between e f) (seen_from p e.a))
      (scale (neg_ℤ (p.w *ℤ share_of e f)) (span_of e))
      (coordinate (seen_from p e.a).x (span_of e).x (span_of f).x
      (cycle_x (seen_from p e.a) (span_of e) (span_of f)))
      (coordinate (seen_from p e.a).y (span_of e).y (span_of f).y
      (cycle_y (seen_from p e.a) (span_of e) (span_of f)))

  rest : (v part : ℤ) → turn_between e f *ℤ v ≡ neg_ℤ (p.w *ℤ share_of e f) *ℤ part
      → turn_between e f *ℤ (v +ℤ (p.w *ℤ part))
      ≡ (p.w *ℤ (turn_between e f -ℤ share_of e f)) *ℤ part
  rest v part same = of (turn_between e f) (share_of e f) p.w same
    where
      of : (w s d : ℤ) → w *ℤ v ≡ neg_ℤ (d *ℤ s) *ℤ part
          → w *ℤ (v +ℤ (d *ℤ part)) ≡ (d *ℤ (w -ℤ s)) *ℤ part
      of w s d same =
          let spread : w *ℤ (v +ℤ (d *ℤ part)) ≡ (w *ℤ v) +ℤ ((w *ℤ d) *ℤ part) =
          equal (times (var w) (plus (var v) (times (var d) (var part))))
          (plus (times (var w) (var v)) (times (times (var w) (var d)) (var part)))
          (omega arith) in
          let joined : (neg_ℤ (d *ℤ s) *ℤ part) +ℤ ((w *ℤ d) *ℤ part)
          ≡ (d *ℤ (w -ℤ s)) *ℤ part =
          equal
          (plus (times (negated (times (var d) (var s))) (var part))
          (times (times (var w) (var d)) (var part)))
          (times (times (var d) (minus (var w) (var s))) (var part)) (omega arith) in
          omega (arith, ints)

  -- and the rest of the share before its end
  pub seen_by_rest : scale (turn_between e f) (seen_from p e.b)
      ≡ scale (p.w *ℤ (turn_between e f -ℤ share_of e f)) (span_of e)
  seen_by_rest =
      ap (scale (turn_between e f)) (seen_later p e.a e.b)
      ∙ (same_arrow
      (scale (turn_between e f) (add (seen_from p e.a) (scale p.w (span_of e))))
      (scale (p.w *ℤ (turn_between e f -ℤ share_of e f)) (span_of e))
      (rest (seen_from p e.a).x (span_of e).x (ap (λ (v : Arrow). v.x) seen_by_share))
      (rest (seen_from p e.a).y (span_of e).y (ap (λ (v : Arrow). v.y) seen_by_share)))

  -- the reach of the edge there, times squares
  pub reach_by_share : turn_between e f *ℤ (turn_between e f *ℤ reach_at e p)
      ≡ (neg_ℤ (p.w *ℤ share_of e f) *ℤ (p.w *ℤ (turn_between e f -ℤ share_of e f)))
      *ℤ dot (span_of e) (span_of e)
  reach_by_share =
      let w = turn_between e f in
      sym (scale-dot w (seen_from p e.a) (scale w (seen_from p e.b))
      ∙ ap (λ n. w *ℤ n) (dot-scale w (seen_from p e.a) (seen_from p e.b)))
      ∙ ap₂ dot seen_by_share seen_by_rest
      ∙ dot-multiples (neg_ℤ (p.w *ℤ share_of e f)) (p.w *ℤ (w -ℤ share_of e f)) (span_of e)

factors : (d s w l : ℤ)
    → (neg_ℤ (d *ℤ s) *ℤ (d *ℤ (w -ℤ s))) *ℤ l ≡ ((d *ℤ d) *ℤ l) *ℤ ((s *ℤ s) -ℤ (s *ℤ w))
factors d s w l =
    equal
    (times (times (negated (times (var d) (var s))) (times (var d) (minus (var w) (var s))))
    (var l))
    (times (times (times (var d) (var d)) (var l))
    (minus (times (var s) (var s)) (times (var s) (var w))))
    (omega arith)

-- a point on both edges lies within the first by its share
pub share_if_on : (p : Spot) (e f : Edge) → IsSpot p → (turn_between e f ≡ pos 0 → ⊥)
    → is_on p e ≡ true → is_on p f ≡ true → is_share (turn_between e f) (share_of e f) ≡ true
share_if_on p e f p_in turned on_e on_f =
    let w = turn_between e f in
    let s = share_of e f in
    let l = dot (span_of e) (span_of e) in
    let first = and_parts (int_eq (turn_at e p) (pos 0)) (int_le (reach_at e p) (pos 0)) on_e in
    let second = and_parts (int_eq (turn_at f p) (pos 0)) (int_le (reach_at f p) (pos 0)) on_f in
    let reach = reach_by_share p e f p_in
    ((signed_Decides (turn_at e p) (pos 0)).0 first.0)
    ((signed_Decides (turn_at f p) (pos 0)).0 second.0) in
    let low = at_most_from (reach_at e p) (pos 0) first.1 in
    let square = positive_square w turned in
    let scaled : (w *ℤ (w *ℤ reach_at e p)) ≤ℤ pos 0 =
    rw (sym (mul_assoc w w (reach_at e p)))
    (weak_negative_product (w *ℤ w) (reach_at e p) (omega (arith, ints)) low) in
    let length = length_if_turned (span_of e) (span_of f) turned in
    let far = positive_product p.w p.w p_in p_in in
    let factor = positive_product (p.w *ℤ p.w) l far length in
    let same = factors p.w s w l in
    let difference = weak_negative_factor ((p.w *ℤ p.w) *ℤ l) ((s *ℤ s) -ℤ (s *ℤ w)) factor
    (omega (arith, ints)) in
    test_at_most (s *ℤ s) (s *ℤ w) (omega (arith, ints))
