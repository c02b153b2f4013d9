-- A point from which the way to a point strictly inside an edge of a plan meets no edge before it
-- lies inside the plan exactly where it lies left of the edge.

use Rattle.std.proofs.Common.{◌≡◌, refl, sym, ap, ap₂, ◌∙◌, ◌⊎◌, inl, inr, arith, ℤ, pos, neg_ℤ}
use Rattle.std.proofs.Common.{◌<ℤ◌, ◌≤ℤ◌, ◌+ℤ◌, ◌-ℤ◌, ◌*ℤ◌, Bool, true, false, not, ◌&&◌}
use Rattle.std.proofs.Common.{int_lt, IsTrue, List}
use Rattle.std.specs.List.{list_any}
use Rattle.std.proofs.lemmas.Int.{ints}
use Rattle.std.proofs.lemmas.Bool.{false_from_ne_true, false≢true}
use Rattle.theory_lists.specs.Members.{Stands}
use Rattle.theory_lists.specs.Parity.{differ, is_odd_number}
use Rattle.theory_lists.proofs.Parity.{differ-self, odd_where_same, opposite_from_differ}
use Rattle.theory_lists.proofs.Parity.{is_odd_number-differ}
use Rattle.theory_numbers.specs.Tests.{is_positive}
use Rattle.theory_numbers.specs.Arrows.{cross, dot}
use Rattle.theory_numbers.proofs.Vectors.Arrows.{cross-turn, cross-self}
use Rattle.theory_numbers.proofs.Products.{positive_product, negative_product, positive_factor}
use Rattle.theory_numbers.proofs.Products.{negative_factor, weak_square, zero_of_positive}
use Rattle.theory_numbers.proofs.Products.{weak_product}
use Rattle.theory_numbers.proofs.Products.{weak_negative_product}
use Rattle.theory_numbers.proofs.Ring.{mul-zero, mul-neg, mul-add, mul-sub, mul-one, one-mul}
use Rattle.theory_numbers.proofs.Ring.{neg-mul-neg}
use Rattle.theory_numbers.proofs.Shapes.{var, num, plus, times, equal}
use Rattle.theory_numbers.proofs.Signs.{sign_cases, test_less, test_not_less, above_or_not}
use Rattle.theory_numbers.proofs.SignTables.{hit_of}
use Rattle.theory_lists.proofs.Members.{all_that_stand}
use Rattle.theory_lists.proofs.Members.{any_stands}
use Rattle.theory_numbers.proofs.Vectors.Lengths.{long_if_crossed}
use Rattle.sb_fraction.specs.declared.point.Point.{Point}
use Rattle.sb_fraction.specs.Spots.{Spot, spot, IsSpot}
use Rattle.sb_fraction.specs.Edges.{Edge, span_of, seen_from, turn_at, is_on}
use Rattle.theory_plans.specs.LoopEdges.{edges_of}
use Rattle.theory_plans.specs.Inside.{is_in_plan}
use Rattle.theory_plans.specs.Plans.{is_plan}
use Rattle.theory_plans.specs.Rays.{is_left_of, is_struck}
use Rattle.theory_plans.specs.Alike.{scaled}
use Rattle.theory_plans.proofs.PointsAlike.{on_sees_no_factor}
use Rattle.theory_parity.specs.Halves.{on_way}
use Rattle.theory_parity.specs.Sides.{IsFreeTo}
use Rattle.theory_parity.proofs.SolidOnTheLeft.AlongAnEdge.{way_by_ends}
use Rattle.theory_parity.proofs.SolidOnTheLeft.EdgesApart.{long_edges, alone_inside, odd_inside}
use Rattle.theory_parity.proofs.FromPointToPoint.Heights.{on_way_is}
use Rattle.theory_parity.proofs.Rays.InsideByBelow.{inside_by_ray}
use Rattle.theory_parity.proofs.FromPointToPoint.Moves.{IsClearOf, way_to, same_ray, left_at_end, way_begins}
use Rattle.theory_parity.proofs.FromPointToPoint.Moves.{flat_spot}
use Rattle.theory_parity.proofs.SolidOnTheLeft.NearAnEdge.{plan_is_bent_apart, even_back}
use Rattle.theory_parity.proofs.SolidOnTheLeft.OwnPoints.{IsOwn, IsLong, IsAlong, by_ends_cross}
use Rattle.theory_parity.proofs.SolidOnTheLeft.OwnPoints.{cross_on_way, dot_on_way, on_along}
use Rattle.theory_parity.proofs.SolidOnTheLeft.RaysAnywhere.{none_from_line, level_on}
use Rattle.theory_parity.proofs.SolidOnTheLeft.RaysFromEdges.{IsAloneAt, left_of_a, left_of_b, right_ray, left_ray}
use Rattle.theory_numbers.proofs.Fractions.Soon.{more_than_0}

-- ---- the end of the way

none_of_edge : (p : Spot) (g : Edge) (es : List Edge) → Stands g es → list_any (is_on p) es ≡ false
    → is_on p g ≡ false
none_of_edge p g es stands off =
    false_from_ne_true (is_on p g)
    (λ on. false≢true (sym off ∙ any_stands (is_on p) g es stands on))

at_its_end : (k l : ℤ) (p m : Spot) → k ≡ pos 0 → on_way k p l m ≡ scaled l (flat_spot m)
at_its_end k l p m none =
    ap₂ (λ x y. spot x y (pos 0) ((k *ℤ p.w) +ℤ (l *ℤ m.w))) (by p.x m.x) (by p.y m.y)
    ∙ ap₂ (λ z w. spot (l *ℤ m.x) (l *ℤ m.y) z w) (sym (mul-zero l)) (by p.w m.w)
  where
    by : (a b : ℤ) → (k *ℤ a) +ℤ (l *ℤ b) ≡ l *ℤ b
    by a b =
        ap (λ j. (j *ℤ a) +ℤ (l *ℤ b)) none
        ∙ equal (plus (times (num 0) (var a)) (times (var l) (var b))) (times (var l) (var b))
        (omega arith)

module _ (loops : List (List Point)) (plan : IsTrue (is_plan loops)) (e : Edge)
    (e_in : Stands e (edges_of loops)) (m : Spot) (own : IsOwn e m) (p : Spot) (p_is : IsSpot p)
    (free : IsFreeTo loops p m) where
  m_is : IsSpot m
  m_is = own.along.is

  long : IsLong e
  long = long_edges loops (plan_is_bent_apart loops plan) e e_in

  alone : IsAloneAt (edges_of loops) e m
  alone = alone_inside loops (plan_is_bent_apart loops plan) e e_in long m own

  odd : is_odd_number (is_on m) (edges_of loops) ≡ true
  odd = odd_inside loops (plan_is_bent_apart loops plan) e e_in long m own

  -- an edge on which m does not lie is clear of the way
  clear_of : (g : Edge) → Stands g (edges_of loops) → is_on m g ≡ false → IsClearOf p m g
  clear_of g stands off k l k_in l_in some = from (above_or_not k)
    where
      from : (pos 0 <ℤ k) ⊎ (k ≤ℤ pos 0) → is_on (on_way k p l m) g ≡ false
      from (inl above) =
          none_of_edge (on_way k p l m) g (edges_of loops) stands (free k l above l_in)
      from (inr low) =
          ap (λ t. is_on t g) (at_its_end k l p m (omega (arith, ints)))
          ∙ on_sees_no_factor g l (flat_spot m) (omega (arith, ints)) ∙ off

  -- the way crosses the line of the edge from the side on which p lies
  way_and_turn : p.w *ℤ cross (span_of e) (way_to p m) ≡ neg_ℤ (m.w *ℤ turn_at e p)
  way_and_turn =
      let whole = way_by_ends e p m (span_of e) in
      let one = ap (λ t. p.w *ℤ t) own.along.b_level ∙ mul-zero p.w in
      let ends = by_ends_cross e p (seen_from p e.b) in
      let self = cross-self (seen_from p e.b) in
      let outer : p.w *ℤ cross (span_of e) (way_to p m)
      ≡ p.w *ℤ (m.w *ℤ cross (span_of e) (seen_from p e.b)) =
      ap (λ t. p.w *ℤ t) (omega (arith, ints)) in
      let inner : m.w *ℤ (p.w *ℤ cross (span_of e) (seen_from p e.b))
      ≡ m.w *ℤ neg_ℤ (turn_at e p) =
      ap (λ t. m.w *ℤ t) (omega (arith, ints)) in
      outer
      ∙ equal (times (var p.w) (times (var m.w) (var (cross (span_of e) (seen_from p e.b)))))
      (times (var m.w) (times (var p.w) (var (cross (span_of e) (seen_from p e.b))))) (omega arith)
      ∙ inner ∙ mul-neg m.w (turn_at e p)

  left_side : pos 0 <ℤ turn_at e p → pos 0 <ℤ cross (way_to p m) (span_of e)
  left_side left =
      let turn = cross-turn (span_of e) (way_to p m) in
      let product = positive_product m.w (turn_at e p) m_is left in
      let whole = way_and_turn in
      let below = negative_factor p.w (cross (span_of e) (way_to p m)) p_is (omega (arith, ints)) in
      omega (arith, ints)

  right_side : turn_at e p <ℤ pos 0 → cross (way_to p m) (span_of e) <ℤ pos 0
  right_side right =
      let turn = cross-turn (span_of e) (way_to p m) in
      let product = negative_product m.w (turn_at e p) m_is right in
      let whole = way_and_turn in
      let above = positive_factor p.w (cross (span_of e) (way_to p m)) p_is (omega (arith, ints)) in
      omega (arith, ints)

  left_of_a_there : is_left_of (way_to p m) p e.a ≡ is_positive (cross (span_of e) (way_to p m))
  left_of_a_there =
      sym (left_at_end p m e.a p_is m_is) ∙ left_of_a e m (way_to p m) long own

  left_of_b_there : is_left_of (way_to p m) p e.b ≡ is_positive (cross (way_to p m) (span_of e))
  left_of_b_there =
      sym (left_at_end p m e.b p_is m_is) ∙ left_of_b e m (way_to p m) long own

  -- a ray from p to m strikes the edge
  strikes_from_left : pos 0 <ℤ turn_at e p → is_struck (way_to p m) p e ≡ true
  strikes_from_left left =
      let side = left_side left in
      let turn = cross-turn (way_to p m) (span_of e) in
      ap₂ (λ a b. hit_of a b (int_lt (pos 0) (turn_at e p)) (int_lt (turn_at e p) (pos 0)))
      (left_of_a_there
      ∙ test_not_less (pos 0) (cross (span_of e) (way_to p m)) (omega (arith, ints)))
      (left_of_b_there ∙ test_less (pos 0) (cross (way_to p m) (span_of e)) side)
      ∙ test_less (pos 0) (turn_at e p) left

  strikes_from_right : turn_at e p <ℤ pos 0 → is_struck (way_to p m) p e ≡ true
  strikes_from_right right =
      let side = right_side right in
      let turn = cross-turn (way_to p m) (span_of e) in
      ap₂ (λ a b. hit_of a b (int_lt (pos 0) (turn_at e p)) (int_lt (turn_at e p) (pos 0)))
      (left_of_a_there ∙ test_less (pos 0) (cross (span_of e) (way_to p m)) (omega (arith, ints)))
      (left_of_b_there
      ∙ test_not_less (pos 0) (cross (way_to p m) (span_of e)) (omega (arith, ints)))
      ∙ test_less (turn_at e p) (pos 0) right

  one_edge : is_struck (way_to p m) p e ≡ true → (g : Edge) → Stands g (edges_of loops)
      → (on : Bool) → is_on m g ≡ on
      → differ (is_struck (way_to p m) p g) (is_struck (way_to p m) m g) ≡ is_on m g
  one_edge strikes g stands true on =
      ap₂ differ (ap (is_struck (way_to p m) p) (alone g stands on) ∙ strikes)
      (none_from_line (way_to p m) m g (level_on m g on))
      ∙ sym on
  one_edge strikes g stands false off =
      ap (λ t. differ t (is_struck (way_to p m) m g))
      (same_ray p m g p_is m_is (clear_of g stands off))
      ∙ differ-self (is_struck (way_to p m) m g) ∙ sym off

  other_answer : is_struck (way_to p m) p e ≡ true
      → differ (is_odd_number (is_struck (way_to p m) p) (edges_of loops))
      (is_odd_number (is_struck (way_to p m) m) (edges_of loops))
      ≡ true
  other_answer strikes =
      sym
      (is_odd_number-differ (is_struck (way_to p m) p) (is_struck (way_to p m) m) (edges_of loops))
      ∙ odd_where_same (λ g. differ (is_struck (way_to p m) p g) (is_struck (way_to p m) m g))
      (is_on m) (edges_of loops)
      (all_that_stand
      (λ g. differ (is_struck (way_to p m) p g) (is_struck (way_to p m) m g) ≡ is_on m g)
      (edges_of loops) (λ g stands. one_edge strikes g stands (is_on m g) refl))
      ∙ odd

  off_edges : list_any (is_on p) (edges_of loops) ≡ false
  off_edges =
      ap (λ t. list_any (is_on t) (edges_of loops)) (sym (way_begins p m))
      ∙ free (pos 1) (pos 0) (omega (arith, ints)) (omega (arith, ints))

  by_ray : (cross (way_to p m) (span_of e) ≡ pos 0 → ⊥) → (b : Bool)
      → is_odd_number (is_struck (way_to p m) p) (edges_of loops) ≡ b → is_in_plan loops p ≡ b
  by_ray slanted b is =
      inside_by_ray (way_to p m) p
      (long_if_crossed (way_to p m) (span_of e) slanted).0
      loops
      ∙ ap₂ (λ s t. not s && t) off_edges is

  -- ---- p does not lie on the edge's line: else the way would run along the edge

  far : ℤ
  far =
      pos 1
      +ℤ ((dot (span_of e) (seen_from p e.a) *ℤ dot (span_of e) (seen_from p e.a))
      +ℤ (dot (span_of e) (seen_from p e.b) *ℤ dot (span_of e) (seen_from p e.b)))

  far_in : pos 0 <ℤ far
  unfolding far
  far_in =
      let one = weak_square (dot (span_of e) (seen_from p e.a)) in
      let other = weak_square (dot (span_of e) (seen_from p e.b)) in
      omega (arith, ints)

  along_there : turn_at e p ≡ pos 0 → IsAlong e (on_way (pos 1) p far m)
  unfolding far
  along_there zero =
      let s = span_of e in
      let to_a = seen_from p e.a in
      let to_b = seen_from p e.b in
      let x = dot s to_a in
      let y = dot s to_b in
      let turn = cross-turn to_a to_b in
      let level_a : cross s to_a ≡ pos 0 =
      zero_of_positive p.w (cross s to_a) p_is
      (let ends = by_ends_cross e p to_a in let self = cross-self to_a in omega (arith, ints)) in
      let level_b : cross s to_b ≡ pos 0 =
      zero_of_positive p.w (cross s to_b) p_is
      (let ends = by_ends_cross e p to_b in let self = cross-self to_b in omega (arith, ints)) in
      let square_x = weak_square x in
      let square_y = weak_square y in
      let reach_x = more_than_0 (neg_ℤ x) in
      let same_square = neg-mul-neg x x in
      let reach_y = more_than_0 y in
      let past = own.past in
      let before = own.before in
      let k = far in
      let in_far = far_in in
      let low = weak_negative_product k (dot s (seen_from m e.a) +ℤ pos 1) (omega (arith, ints))
      (omega (arith, ints)) in
      let spread_low = mul-add k (dot s (seen_from m e.a)) (pos 1) in
      let high = weak_product k (dot s (seen_from m e.b) -ℤ pos 1) (omega (arith, ints))
      (omega (arith, ints)) in
      let spread_high = mul-sub k (dot s (seen_from m e.b)) (pos 1) in
      let one = mul-one k in
      let along_a = dot_on_way s (pos 1) p k m e.a in
      let along_b = dot_on_way s (pos 1) p k m e.b in
      let one_x = one-mul x in
      let one_y = one-mul y in
      record {
        is =
            on_way_is (pos 1) p k m p_is m_is (omega (arith, ints)) (omega (arith, ints))
            (omega (arith, ints));
        a_level =
            cross_on_way s (pos 1) p k m e.a
            ∙ ap₂ (λ t u. (pos 1 *ℤ t) +ℤ (k *ℤ u)) level_a own.along.a_level ∙ no_sum k;
        a_behind = omega (arith, ints);
        b_level =
            cross_on_way s (pos 1) p k m e.b
            ∙ ap₂ (λ t u. (pos 1 *ℤ t) +ℤ (k *ℤ u)) level_b own.along.b_level ∙ no_sum k;
        b_ahead = omega (arith, ints);
      }
    where
      no_sum : (k : ℤ) → (pos 1 *ℤ pos 0) +ℤ (k *ℤ pos 0) ≡ pos 0
      no_sum k =
          equal (plus (times (num 1) (num 0)) (times (var k) (num 0))) (num 0) (omega arith)

  not_level : turn_at e p ≡ pos 0 → ⊥
  not_level zero =
      let in_far = far_in in
      false≢true
      (sym (free (pos 1) far (omega (arith, ints)) (omega (arith, ints)))
      ∙ any_stands (is_on (on_way (pos 1) p far m)) e (edges_of loops) e_in
      (on_along e (on_way (pos 1) p far m) long (along_there zero)))

  -- ---- both sides

  -- inside exactly where it lies left of the edge
  pub inside_if_left : is_in_plan loops p ≡ is_positive (turn_at e p)
  inside_if_left = from (sign_cases (turn_at e p))
    where
      from : ((pos 0 <ℤ turn_at e p) ⊎ (turn_at e p ≡ pos 0)) ⊎ (turn_at e p <ℤ pos 0)
          → is_in_plan loops p ≡ is_positive (turn_at e p)
      from (inl (inl left)) =
          let side = left_side left in
          by_ray (λ zero. omega (arith, ints)) true
          (opposite_from_differ (is_odd_number (is_struck (way_to p m) p) (edges_of loops))
          (is_odd_number (is_struck (way_to p m) m) (edges_of loops))
          (other_answer (strikes_from_left left))
          ∙ ap not
          (right_ray loops e m long own alone (way_to p m) side
          ∙ even_back loops plan e e_in m own))
          ∙ sym (test_less (pos 0) (turn_at e p) left)
      from (inl (inr zero)) = absurd (not_level zero)
      from (inr right) =
          let side = right_side right in
          by_ray (λ zero. omega (arith, ints)) false
          (opposite_from_differ (is_odd_number (is_struck (way_to p m) p) (edges_of loops))
          (is_odd_number (is_struck (way_to p m) m) (edges_of loops))
          (other_answer (strikes_from_right right))
          ∙ ap not
          (left_ray loops e m long own alone odd (way_to p m) side
          ∙ ap not (even_back loops plan e e_in m own)))
          ∙ sym (test_not_less (pos 0) (turn_at e p) (omega (arith, ints)))
