-- Each point of the edge between the outer two of three points on one line lies on one of the edges
-- from point to point.

use Rattle.std.proofs.Common.{◌≡◌, sym, ap, ap₂, ◌∙◌, ◌⊎◌, inl, inr, arith, pos, ℤ}
use Rattle.std.proofs.Common.{◌<ℤ◌, ◌≤ℤ◌, ◌*ℤ◌, ◌+ℤ◌, ◌-ℤ◌, false, int_le}
use Rattle.std.specs.Ordering.{int_eq}
use Rattle.std.proofs.lemmas.Int.{ints}
use Rattle.std.proofs.lemmas.Bool.{and_parts, false_from_ne_true}
use Rattle.std.proofs.lemmas.Bool.Decides.{Decides-int_eq}
use Rattle.theory_numbers.specs.Arrows.{cross, dot}
use Rattle.theory_numbers.proofs.Vectors.Arrows.{cross-turn}
use Rattle.theory_numbers.proofs.Shapes.{var, minus, times, equal, cross_eq, dot_eq}
use Rattle.theory_numbers.proofs.Signs.{at_most_from, above_or_not}
use Rattle.theory_numbers.proofs.Products.{zero_of_positive, weak_negative_product}
use Rattle.theory_numbers.proofs.Products.{weak_negative_factor}
use Rattle.theory_numbers.proofs.Vectors.Lengths.{no_length, seen_by}
use Rattle.theory_numbers.proofs.Vectors.ThreeTerms.{frame_dot}
use Rattle.sb_fraction.specs.declared.point.Point.{Point}
use Rattle.sb_fraction.specs.Spots.{Spot}
use Rattle.sb_fraction.specs.Edges.{edge, seen_from, turn_at, reach_at, is_on}
use Rattle.theory_plans.specs.Loops.{bend}
use Rattle.theory_parity.proofs.Rays.AnyRay.{off_edge}
use Rattle.theory_loops.proofs.DropPoint.{turns_add}

module _ (p : Spot) (a b c : Point) (level : bend a b c ≡ pos 0)
    (off_first : is_on p (edge a b) ≡ false) (off_second : is_on p (edge b c) ≡ false)
    (flat : cross (seen_from p a) (seen_from p c) ≡ pos 0)
    (about : dot (seen_from p a) (seen_from p c) ≤ℤ pos 0) where
  -- where the point is a
  at_end : dot (seen_from p a) (seen_from p a) ≤ℤ pos 0 → ⊥
  at_end short =
      let none = no_length (seen_from p a) short in
      let turn : cross (seen_from p a) (seen_from p b) ≡ pos 0 =
      cross_eq (seen_from p a) (seen_from p b)
      ∙ ap₂ (λ s t. (s *ℤ (seen_from p b).y) -ℤ (t *ℤ (seen_from p b).x)) none.0 none.1
      ∙ omega (arith, ints) in
      let reach : dot (seen_from p a) (seen_from p b) ≡ pos 0 =
      dot_eq (seen_from p a) (seen_from p b)
      ∙ ap₂ (λ s t. (s *ℤ (seen_from p b).x) +ℤ (t *ℤ (seen_from p b).y)) none.0 none.1
      ∙ omega (arith, ints) in
      off_edge p (edge a b) off_first turn (omega (arith, ints))

  -- where it is not, b lies on the line from it to a
  on_line : pos 0 <ℤ dot (seen_from p a) (seen_from p a)
      → cross (seen_from p a) (seen_from p b) ≡ pos 0
  on_line long =
      let same = seen_by (seen_from p a) (seen_from p c) (seen_from p b) flat in
      let sum = turns_add a b c p level in
      let turn = cross-turn (seen_from p b) (seen_from p c) in
      let equal_turns : cross (seen_from p c) (seen_from p b)
      ≡ cross (seen_from p a) (seen_from p b) = omega (arith, ints, flat) in
      let same_turn : dot (seen_from p a) (seen_from p a) *ℤ cross (seen_from p a) (seen_from p b)
      ≡ dot (seen_from p a) (seen_from p c) *ℤ cross (seen_from p a) (seen_from p b) =
      ap (λ n. dot (seen_from p a) (seen_from p a) *ℤ n) (sym equal_turns) ∙ same in
      let spread = parts (dot (seen_from p a) (seen_from p a))
      (dot (seen_from p a) (seen_from p c)) (cross (seen_from p a) (seen_from p b)) in
      zero_of_positive
      (dot (seen_from p a) (seen_from p a) -ℤ dot (seen_from p a) (seen_from p c))
      (cross (seen_from p a) (seen_from p b)) (omega (arith, ints, about))
      (omega (arith, ints))
    where
      parts : (k l m : ℤ) → (k -ℤ l) *ℤ m ≡ (k *ℤ m) -ℤ (l *ℤ m)
      parts k l m = equal (times (minus (var k) (var l)) (var m))
          (minus (times (var k) (var m)) (times (var l) (var m))) (omega arith)

  beyond : pos 0 <ℤ dot (seen_from p a) (seen_from p a)
      → pos 0 <ℤ dot (seen_from p a) (seen_from p b) → ⊥
  beyond long up =
      let line = on_line long in
      let sum = turns_add a b c p level in
      let whole = frame_dot (seen_from p a) (seen_from p b) (seen_from p c) in
      let none : cross (seen_from p a) (seen_from p b) *ℤ cross (seen_from p a) (seen_from p c)
      ≡ pos 0 = ap₂ (λ s t. s *ℤ t) line flat in
      let low = weak_negative_product (dot (seen_from p a) (seen_from p b))
      (dot (seen_from p a) (seen_from p c)) (omega (arith, ints)) about in
      off_edge p (edge b c) off_second (omega (arith, ints, flat))
      (weak_negative_factor (dot (seen_from p a) (seen_from p a))
      (dot (seen_from p b) (seen_from p c)) long (omega (arith, ints)))

  nowhere : ⊥
  nowhere = by_length (above_or_not (dot (seen_from p a) (seen_from p a)))
    where
      by_reach : pos 0 <ℤ dot (seen_from p a) (seen_from p a)
          → ((pos 0 <ℤ dot (seen_from p a) (seen_from p b))
          ⊎ (dot (seen_from p a) (seen_from p b) ≤ℤ pos 0)) → ⊥
      by_reach long (inl up) = beyond long up
      by_reach long (inr near) = off_edge p (edge a b) off_first (on_line long) near

      by_length : ((pos 0 <ℤ dot (seen_from p a) (seen_from p a))
          ⊎ (dot (seen_from p a) (seen_from p a) ≤ℤ pos 0)) → ⊥
      by_length (inl long) =
          by_reach long (above_or_not (dot (seen_from p a) (seen_from p b)))
      by_length (inr short) = at_end short

-- a point on neither of the two edges is not on the edge between the outer points
pub outer_is_covered : (p : Spot) (a b c : Point) → bend a b c ≡ pos 0
    → is_on p (edge a b) ≡ false → is_on p (edge b c) ≡ false → is_on p (edge a c) ≡ false
outer_is_covered p a b c level off_first off_second =
    false_from_ne_true (is_on p (edge a c)) (λ on.
    let two = and_parts (int_eq (turn_at (edge a c) p) (pos 0))
    (int_le (reach_at (edge a c) p) (pos 0)) on in
    nowhere p a b c level off_first off_second
    ((Decides-int_eq (turn_at (edge a c) p) (pos 0)).0 two.0)
    (at_most_from (reach_at (edge a c) p) (pos 0) two.1))
