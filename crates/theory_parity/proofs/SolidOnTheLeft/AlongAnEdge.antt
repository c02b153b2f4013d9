-- The rays back along an edge from two points strictly inside it, between which no other edge
-- passes, strike an odd number of edges both or an even number both.

use Rattle.std.proofs.Common.{◌≡◌, refl, sym, ap, ap₂, ◌∙◌, ◌⊎◌, inl, inr, arith, ℤ, pos, neg_ℤ}
use Rattle.std.proofs.Common.{◌<ℤ◌, ◌+ℤ◌, ◌-ℤ◌, ◌*ℤ◌, Bool, true, false, int_lt, List}
use Rattle.std.proofs.lemmas.Int.{ints}
use Rattle.std.proofs.lemmas.Bool.{false≢true}
use Rattle.theory_lists.specs.Members.{Stands}
use Rattle.theory_lists.specs.Parity.{is_odd_number}
use Rattle.theory_lists.proofs.Parity.{odd_where_same}
use Rattle.theory_numbers.specs.Tests.{is_positive}
use Rattle.theory_numbers.specs.Arrows.{Arrow, cross, dot, opposite}
use Rattle.theory_numbers.proofs.Vectors.Arrows.{opposite-cross, opposite-dot, dot_comm}
use Rattle.theory_numbers.proofs.Shapes.{var, minus, negated, times, equal, cross_by, dot_by}
use Rattle.theory_numbers.proofs.Ring.{mul_comm, mul-zero, zero-mul}
use Rattle.theory_numbers.proofs.Signs.{sign_cases}
use Rattle.theory_numbers.proofs.SignTables.{hit_of}
use Rattle.theory_numbers.proofs.Vectors.ThreeTerms.{frame_cross, frame_dot}
use Rattle.theory_lists.proofs.Members.{all_that_stand}
use Rattle.theory_numbers.proofs.Multiples.{sign_of_multiple}
use Rattle.theory_numbers.proofs.Vectors.Lengths.{no_length}
use Rattle.theory_numbers.proofs.Products.{weak_negative_factor}
use Rattle.sb_fraction.specs.declared.point.Point.{Point}
use Rattle.sb_fraction.specs.Spots.{Spot, IsSpot}
use Rattle.sb_fraction.specs.Edges.{Edge, span_of, seen_from, turn_at, is_on}
use Rattle.theory_plans.specs.LoopEdges.{edges_of}
use Rattle.theory_plans.specs.Rays.{is_struck}
use Rattle.theory_plans.proofs.PointsAlike.{same_of_alike, struck_sees_no_factor}
use Rattle.theory_parity.specs.Halves.{on_way}
use Rattle.theory_parity.proofs.FromPointToPoint.Moves.{IsClearOf, way_to, flat_spot, same_flat, same_ray}
use Rattle.theory_parity.proofs.SolidOnTheLeft.OwnPoints.{IsOwn, IsLong, level_along, on_along}
use Rattle.theory_parity.proofs.SolidOnTheLeft.OwnPoints.{along_between, past_between, before_between}
use Rattle.theory_parity.proofs.SolidOnTheLeft.RaysAnywhere.{none_from_line}
use Rattle.theory_parity.proofs.SolidOnTheLeft.RaysFromEdges.{IsAloneAt}

-- ---- two rays of one sense

module _ (r w : Arrow) (r_long : pos 0 <ℤ dot r r) (level : cross r w ≡ pos 0)
    (ahead : pos 0 <ℤ dot r w) where
  same_side : (v : Arrow) → is_positive (cross w v) ≡ is_positive (cross r v)
  same_side v =
      let frame = frame_cross r w v in
      let none : cross r w *ℤ dot r v ≡ pos 0 =
      ap (λ t. t *ℤ dot r v) level ∙ zero-mul (dot r v) in
      let whole : dot r r *ℤ cross w v ≡ dot r w *ℤ cross r v = omega (arith, ints) in
      sym (sign_of_multiple (dot r r) (cross w v) r_long)
      ∙ ap is_positive whole
      ∙ sign_of_multiple (dot r w) (cross r v) ahead

  -- strike the same edges
  one_sense : (p : Spot) (e : Edge) → is_struck w p e ≡ is_struck r p e
  one_sense p e =
      ap₂ (λ a b. hit_of a b (int_lt (pos 0) (turn_at e p)) (int_lt (turn_at e p) (pos 0)))
      (same_side (seen_from p e.a)) (same_side (seen_from p e.b))

-- ---- a ray parallel to the way

way_back : (p q : Spot) (r : Arrow) → dot r (way_to q p) ≡ neg_ℤ (dot r (way_to p q))
way_back p q r =
    equal
    (dot_by r (way_to q p) (var r.x) (var r.y)
    (minus (times (var p.x) (var q.w)) (times (var q.x) (var p.w)))
    (minus (times (var p.y) (var q.w)) (times (var q.y) (var p.w))))
    (negated
    (dot_by r (way_to p q) (var r.x) (var r.y)
    (minus (times (var q.x) (var p.w)) (times (var p.x) (var q.w)))
    (minus (times (var q.y) (var p.w)) (times (var p.y) (var q.w)))))
    (omega arith)

way_back_level : (p q : Spot) (r : Arrow) → cross r (way_to q p) ≡ neg_ℤ (cross r (way_to p q))
way_back_level p q r =
    equal
    (cross_by r (way_to q p) (var r.x) (var r.y)
    (minus (times (var p.x) (var q.w)) (times (var q.x) (var p.w)))
    (minus (times (var p.y) (var q.w)) (times (var q.y) (var p.w))))
    (negated
    (cross_by r (way_to p q) (var r.x) (var r.y)
    (minus (times (var q.x) (var p.w)) (times (var p.x) (var q.w)))
    (minus (times (var q.y) (var p.w)) (times (var p.y) (var q.w)))))
    (omega arith)

on_way_back : (m : ℤ) (p : Spot) (n : ℤ) (q : Spot) → on_way m q n p ≡ on_way n p m q
on_way_back m p n q =
    same_flat (swapped (m *ℤ q.x) (n *ℤ p.x)) (swapped (m *ℤ q.y) (n *ℤ p.y))
    (swapped (m *ℤ q.w) (n *ℤ p.w))
  where
    swapped : (a b : ℤ) → a +ℤ b ≡ b +ℤ a
    swapped a b = omega (arith, ints)

module _ (p q : Spot) (g : Edge) (p_is : IsSpot p) (q_is : IsSpot q) (clear : IsClearOf p q g)
    (r : Arrow) (r_long : pos 0 <ℤ dot r r) (level : cross r (way_to p q) ≡ pos 0) where
  -- the points are one
  at_one_point : dot r (way_to p q) ≡ pos 0 → is_struck r p g ≡ is_struck r q g
  at_one_point none =
      same_of_alike (λ t. is_struck r t g) (struck_sees_no_factor r g) (flat_spot p) (flat_spot q)
      p_is q_is
      (record {
        x =
            let x = zero.0 in
            let swap = mul_comm q.w p.x in
            let other = mul_comm p.w q.x in
            omega (arith, ints);
        y =
            let y = zero.1 in
            let swap = mul_comm q.w p.y in
            let other = mul_comm p.w q.y in
            omega (arith, ints);
        z = mul-zero q.w ∙ sym (mul-zero p.w);
      })
    where
      zero : ((way_to p q).x ≡ pos 0) × ((way_to p q).y ≡ pos 0)
      zero =
          no_length (way_to p q)
          (weak_negative_factor (dot r r) (dot (way_to p q) (way_to p q)) r_long
          (let frame = frame_dot r (way_to p q) (way_to p q) in
          let one : dot r (way_to p q) *ℤ dot r (way_to p q) ≡ pos 0 =
          ap (λ t. t *ℤ dot r (way_to p q)) none ∙ zero-mul (dot r (way_to p q)) in
          let other : cross r (way_to p q) *ℤ cross r (way_to p q) ≡ pos 0 =
          ap (λ t. t *ℤ cross r (way_to p q)) level ∙ zero-mul (cross r (way_to p q)) in
          omega (arith, ints)))

  -- a ray along the way strikes an edge that has no point on it from both ends or from none
  pub same_parallel_ray : is_struck r p g ≡ is_struck r q g
  same_parallel_ray = from (sign_cases (dot r (way_to p q)))
    where
      from : ((pos 0 <ℤ dot r (way_to p q)) ⊎ (dot r (way_to p q) ≡ pos 0))
          ⊎ (dot r (way_to p q) <ℤ pos 0)
          → is_struck r p g ≡ is_struck r q g
      from (inl (inl ahead)) =
          sym (one_sense r (way_to p q) r_long level ahead p g)
          ∙ same_ray p q g p_is q_is clear
          ∙ one_sense r (way_to p q) r_long level ahead q g
      from (inl (inr none)) = at_one_point none
      from (inr behind) =
          let level_back : cross r (way_to q p) ≡ pos 0 =
          let turned = way_back_level p q r in omega (arith, ints) in
          let ahead : pos 0 <ℤ dot r (way_to q p) =
          let turned = way_back p q r in omega (arith, ints) in
          sym
          (sym (one_sense r (way_to q p) r_long level_back ahead q g)
          ∙ same_ray q p g q_is p_is
          (λ m n m_in n_in some.
          ap (λ t. is_on t g) (on_way_back m p n q) ∙ clear n m n_in m_in (omega (arith, ints)))
          ∙ one_sense r (way_to q p) r_long level_back ahead p g)

-- ---- two points of an edge

pub way_by_ends : (e : Edge) (p q : Spot) (s : Arrow)
    → cross s (way_to p q)
    ≡ (q.w *ℤ cross s (seen_from p e.b)) -ℤ (p.w *ℤ cross s (seen_from q e.b))
way_by_ends e p q s =
    equal
    (cross_by s (way_to p q) (var s.x) (var s.y)
    (minus (times (var q.x) (var p.w)) (times (var p.x) (var q.w)))
    (minus (times (var q.y) (var p.w)) (times (var p.y) (var q.w))))
    (minus
    (times (var q.w)
    (cross_by s (seen_from p e.b) (var s.x) (var s.y)
    (minus (times (var e.b.x) (var p.w)) (var p.x))
    (minus (times (var e.b.y) (var p.w)) (var p.y))))
    (times (var p.w)
    (cross_by s (seen_from q e.b) (var s.x) (var s.y)
    (minus (times (var e.b.x) (var q.w)) (var q.x))
    (minus (times (var e.b.y) (var q.w)) (var q.y)))))
    (omega arith)

module _ (loops : List (List Point)) (e : Edge) (long : IsLong e)
    (alone : (p : Spot) → IsOwn e p → IsAloneAt (edges_of loops) e p)
    (p q : Spot) (own_p : IsOwn e p) (own_q : IsOwn e q) where
  clear_between : (g : Edge) → Stands g (edges_of loops) → is_on p g ≡ false → IsClearOf p q g
  clear_between g stands off m n m_in n_in some = by (is_on (on_way m p n q) g) refl
    where
      own : IsOwn e (on_way m p n q)
      own = record {
        along = along_between m n m_in n_in some e p q own_p.along own_q.along;
        past =
            past_between m n m_in n_in some e p q own_p.along own_q.along own_p.past own_q.past;
        before =
            before_between m n m_in n_in some e p q own_p.along own_q.along own_p.before
            own_q.before;
      }

      by : (on : Bool) → is_on (on_way m p n q) g ≡ on → is_on (on_way m p n q) g ≡ false
      by true on =
          absurd
          (false≢true
          (sym off ∙ ap (is_on p) (alone (on_way m p n q) own g stands on)
          ∙ on_along e p long own_p.along))
      by false none = none

  one_edge : (g : Edge) → Stands g (edges_of loops) → (on : Bool) → is_on p g ≡ on
      → is_struck (opposite (span_of e)) p g ≡ is_struck (opposite (span_of e)) q g
  one_edge g stands true on =
      ap (λ h. is_struck (opposite (span_of e)) p h) (alone p own_p g stands on)
      ∙ none_from_line (opposite (span_of e)) p e (level_along e p long own_p.along)
      ∙ sym (ap (λ h. is_struck (opposite (span_of e)) q h) (alone p own_p g stands on)
      ∙ none_from_line (opposite (span_of e)) q e (level_along e q long own_q.along))
  one_edge g stands false off =
      same_parallel_ray p q g own_p.along.is own_q.along.is (clear_between g stands off)
      (opposite (span_of e)) back_long back_level
    where
      back_long : pos 0 <ℤ dot (opposite (span_of e)) (opposite (span_of e))
      back_long =
          let one = opposite-dot (span_of e) (opposite (span_of e)) in
          let other = dot_comm (span_of e) (opposite (span_of e)) in
          let two = opposite-dot (span_of e) (span_of e) in
          omega (arith, ints, long)

      back_level : cross (opposite (span_of e)) (way_to p q) ≡ pos 0
      back_level =
          let turned = opposite-cross (span_of e) (way_to p q) in
          let whole = way_by_ends e p q (span_of e) in
          let one = ap (λ t. q.w *ℤ t) own_p.along.b_level ∙ mul-zero q.w in
          let other = ap (λ t. p.w *ℤ t) own_q.along.b_level ∙ mul-zero p.w in
          omega (arith, ints)

  -- they have one answer
  pub along_an_edge : is_odd_number (is_struck (opposite (span_of e)) p) (edges_of loops)
      ≡ is_odd_number (is_struck (opposite (span_of e)) q) (edges_of loops)
  along_an_edge =
      odd_where_same (is_struck (opposite (span_of e)) p) (is_struck (opposite (span_of e)) q)
      (edges_of loops)
      (all_that_stand
      (λ g. is_struck (opposite (span_of e)) p g ≡ is_struck (opposite (span_of e)) q g)
      (edges_of loops) (λ g stands. one_edge g stands (is_on p g) refl))
