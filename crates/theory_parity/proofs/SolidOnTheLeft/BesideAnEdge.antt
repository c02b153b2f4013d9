-- Near a point strictly inside an edge, through which no other edge passes, a ray across the edge
-- strikes from left and right of it the edges that it strikes from the point, and from the left the
-- edge too. So the points on the one side lie inside the loops and those on the other outside.

use Rattle.std.proofs.Common.{◌≡◌, refl, sym, ap, ap₂, ◌∙◌, ◌⊎◌, inl, inr, arith, ℤ, pos, neg_ℤ}
use Rattle.std.proofs.Common.{◌<ℤ◌, ◌≤ℤ◌, ◌+ℤ◌, ◌-ℤ◌, ◌*ℤ◌, Bool, true, false, not, ◌&&◌, int_lt}
use Rattle.std.proofs.Common.{int_le, List}
use Rattle.std.specs.List.{AllByRecursion}
use Rattle.std.specs.Ordering.{int_eq}
use Rattle.std.proofs.lemmas.Int.{ints}
use Rattle.std.proofs.lemmas.Bool.{and_parts, false≢true}
use Rattle.theory_lists.specs.Members.{Stands}
use Rattle.theory_lists.specs.Parity.{differ, is_odd_number}
use Rattle.theory_lists.proofs.Blocks.{none_where}
use Rattle.theory_lists.proofs.Members.{all_follow}
use Rattle.theory_lists.proofs.Parity.{differ-self, differ-false, odd_where_same}
use Rattle.theory_lists.proofs.Parity.{is_odd_number-differ, is_odd_number-and}
use Rattle.theory_numbers.specs.Tests.{is_positive}
use Rattle.theory_numbers.specs.Arrows.{Arrow, cross, dot, add, scale}
use Rattle.theory_numbers.specs.Rationals.{IsRational}
use Rattle.theory_numbers.proofs.Vectors.Arrows.{same_arrow, cross-add, cross-scale, cross-turn}
use Rattle.theory_numbers.proofs.Products.{positive_product, negative_product, weak_product}
use Rattle.theory_numbers.proofs.Products.{weak_square}
use Rattle.theory_numbers.proofs.Ring.{mul-zero}
use Rattle.theory_numbers.proofs.Shapes.{var, num, plus, minus, negated, times, equal, cross_by}
use Rattle.theory_numbers.proofs.Shapes.{dot_by, cross_is, dot_is}
use Rattle.theory_numbers.proofs.Signs.{test_less, test_not_less, at_most_from, sign_cases}
use Rattle.theory_numbers.proofs.Signs.{above_or_not}
use Rattle.theory_numbers.proofs.SignTables.{hit_of}
use Rattle.theory_lists.proofs.Members.{all_that_stand}
use Rattle.theory_numbers.proofs.Multiples.{sign_of_multiple}
use Rattle.theory_numbers.proofs.Vectors.Lengths.{weak_length}
use Rattle.sb_fraction.specs.declared.point.Point.{Point}
use Rattle.sb_fraction.specs.Spots.{Spot, IsSpot}
use Rattle.sb_fraction.specs.Edges.{Edge, span_of, seen_from, turn_at, reach_at, is_on}
use Rattle.theory_plans.specs.LoopEdges.{edges_of}
use Rattle.theory_plans.specs.Inside.{is_in_plan}
use Rattle.theory_plans.specs.Rays.{is_left_of, is_struck}
use Rattle.theory_parity.specs.Below.{IsWay}
use Rattle.theory_parity.specs.Sides.{aside}
use Rattle.theory_parity.proofs.Rays.AnyRay.{decided, off_edge}
use Rattle.theory_parity.proofs.Rays.InsideByBelow.{inside_by_ray}
use Rattle.theory_parity.proofs.SolidOnTheLeft.OwnPoints.{IsOwn, IsLong, level_along, by_ends_cross}
use Rattle.theory_parity.proofs.SolidOnTheLeft.RaysAnywhere.{none_from_line, level_on}
use Rattle.theory_parity.proofs.SolidOnTheLeft.RaysFromEdges.{IsAloneAt, left_of_a, left_of_b}
use Rattle.theory_numbers.proofs.Fractions.Soon.{Soon, soon_always, soon_then, soon_all, soon_form}

-- ---- what is seen from beside a point

-- two vectors less the same one
less_one_cross : (x c : ℤ) (a b k : Arrow)
    → cross (add (scale x a) (scale (neg_ℤ c) k)) (add (scale x b) (scale (neg_ℤ c) k))
    ≡ x *ℤ ((x *ℤ cross a b) +ℤ (neg_ℤ c *ℤ (cross a k +ℤ cross k b)))
less_one_cross x c a b k =
    equal
    (cross_by (add (scale x a) (scale (neg_ℤ c) k)) (add (scale x b) (scale (neg_ℤ c) k))
    (plus (times (var x) (var a.x)) (times (negated (var c)) (var k.x)))
    (plus (times (var x) (var a.y)) (times (negated (var c)) (var k.y)))
    (plus (times (var x) (var b.x)) (times (negated (var c)) (var k.x)))
    (plus (times (var x) (var b.y)) (times (negated (var c)) (var k.y))))
    (times (var x)
    (plus (times (var x) (cross_is a b))
    (times (negated (var c)) (plus (cross_is a k) (cross_is k b)))))
    (omega arith)

less_one_dot : (x c : ℤ) (a b k : Arrow)
    → dot (add (scale x a) (scale (neg_ℤ c) k)) (add (scale x b) (scale (neg_ℤ c) k))
    ≡ (x *ℤ ((x *ℤ dot a b) +ℤ (neg_ℤ c *ℤ (dot a k +ℤ dot k b)))) +ℤ ((c *ℤ c) *ℤ dot k k)
less_one_dot x c a b k =
    equal
    (dot_by (add (scale x a) (scale (neg_ℤ c) k)) (add (scale x b) (scale (neg_ℤ c) k))
    (plus (times (var x) (var a.x)) (times (negated (var c)) (var k.x)))
    (plus (times (var x) (var a.y)) (times (negated (var c)) (var k.y)))
    (plus (times (var x) (var b.x)) (times (negated (var c)) (var k.x)))
    (plus (times (var x) (var b.y)) (times (negated (var c)) (var k.y))))
    (plus
    (times (var x)
    (plus (times (var x) (dot_is a b))
    (times (negated (var c)) (plus (dot_is a k) (dot_is k b)))))
    (times (times (var c) (var c)) (dot_is k k)))
    (omega arith)

-- the factor of t, of the point's denominator and of the rest
regrouped : (t w z : ℤ) → neg_ℤ (t *ℤ w) *ℤ z ≡ t *ℤ (neg_ℤ w *ℤ z)
regrouped t w z =
    equal (times (negated (times (var t) (var w))) (var z))
    (times (var t) (times (negated (var w)) (var z))) (omega arith)

module _ (k : Arrow) (m : Spot) where
  seen_aside : (t : Arrow) (a : Point)
      → seen_from (aside k m t) a
      ≡ add (scale t.x (seen_from m a)) (scale (neg_ℤ (t.y *ℤ m.w)) k)
  seen_aside t a =
      same_arrow (seen_from (aside k m t) a)
      (add (scale t.x (seen_from m a)) (scale (neg_ℤ (t.y *ℤ m.w)) k)) (by a.x m.x k.x)
      (by a.y m.y k.y)
    where
      by : (b x s : ℤ)
          → (b *ℤ (t.x *ℤ m.w)) -ℤ ((t.x *ℤ x) +ℤ ((t.y *ℤ m.w) *ℤ s))
          ≡ (t.x *ℤ ((b *ℤ m.w) -ℤ x)) +ℤ (neg_ℤ (t.y *ℤ m.w) *ℤ s)
      by b x s =
          equal
          (minus (times (var b) (times (var t.x) (var m.w)))
          (plus (times (var t.x) (var x)) (times (times (var t.y) (var m.w)) (var s))))
          (plus (times (var t.x) (minus (times (var b) (var m.w)) (var x)))
          (times (negated (times (var t.y) (var m.w))) (var s)))
          (omega arith)

  -- how the turn of an edge changes, and its reach
  turn_slope : Edge → ℤ
  turn_slope g = neg_ℤ m.w *ℤ (cross (seen_from m g.a) k +ℤ cross k (seen_from m g.b))

  reach_slope : Edge → ℤ
  reach_slope g = neg_ℤ m.w *ℤ (dot (seen_from m g.a) k +ℤ dot k (seen_from m g.b))

  turn_aside : (t : Arrow) (g : Edge)
      → turn_at g (aside k m t)
      ≡ t.x *ℤ ((t.x *ℤ turn_at g m) +ℤ (t.y *ℤ turn_slope g))
  unfolding turn_slope
  turn_aside t g =
      ap₂ cross (seen_aside t g.a) (seen_aside t g.b)
      ∙ less_one_cross t.x (t.y *ℤ m.w) (seen_from m g.a) (seen_from m g.b) k
      ∙ ap (λ z. t.x *ℤ ((t.x *ℤ turn_at g m) +ℤ z))
      (regrouped t.y m.w (cross (seen_from m g.a) k +ℤ cross k (seen_from m g.b)))

  reach_aside : (t : Arrow) (g : Edge)
      → reach_at g (aside k m t)
      ≡ (t.x *ℤ ((t.x *ℤ reach_at g m) +ℤ (t.y *ℤ reach_slope g)))
      +ℤ (((t.y *ℤ m.w) *ℤ (t.y *ℤ m.w)) *ℤ dot k k)
  unfolding reach_slope
  reach_aside t g =
      ap₂ dot (seen_aside t g.a) (seen_aside t g.b)
      ∙ less_one_dot t.x (t.y *ℤ m.w) (seen_from m g.a) (seen_from m g.b) k
      ∙ ap
      (λ z. (t.x *ℤ ((t.x *ℤ reach_at g m) +ℤ z)) +ℤ (((t.y *ℤ m.w) *ℤ (t.y *ℤ m.w)) *ℤ dot k k))
      (regrouped t.y m.w (dot (seen_from m g.a) k +ℤ dot k (seen_from m g.b)))

  aside_is : IsSpot m → (t : Arrow) → IsRational t → IsSpot (aside k m t)
  aside_is m_is t t_in = positive_product t.x m.w t_in m_is

  -- ---- a ray along k or against it

  module _ (n : Arrow) (level : cross n k ≡ pos 0) where
    -- a plan point lies on one side of it
    left_aside : (t : Arrow) → IsRational t → (a : Point)
        → is_left_of n (aside k m t) a ≡ is_left_of n m a
    left_aside t t_in a =
        ap is_positive
        (ap (cross n) (seen_aside t a)
        ∙ cross-add n (scale t.x (seen_from m a)) (scale (neg_ℤ (t.y *ℤ m.w)) k)
        ∙ ap₂ (λ s u. s +ℤ u) (cross-scale t.x n (seen_from m a))
        (cross-scale (neg_ℤ (t.y *ℤ m.w)) n k
        ∙ ap (λ z. neg_ℤ (t.y *ℤ m.w) *ℤ z) level ∙ mul-zero (neg_ℤ (t.y *ℤ m.w)))
        ∙ nothing_more (t.x *ℤ cross n (seen_from m a)))
        ∙ sign_of_multiple t.x (cross n (seen_from m a)) t_in
      where
        nothing_more : (z : ℤ) → z +ℤ pos 0 ≡ z
        nothing_more z = omega (arith, ints)

    -- it strikes an edge alike where the edge's turn keeps its sign
    hit_aside : (t : Arrow) → IsRational t → (g : Edge)
        → int_lt (pos 0) (turn_at g (aside k m t)) ≡ int_lt (pos 0) (turn_at g m)
        → int_lt (turn_at g (aside k m t)) (pos 0) ≡ int_lt (turn_at g m) (pos 0)
        → is_struck n (aside k m t) g ≡ is_struck n m g
    hit_aside t t_in g over under =
        ap₂
        (λ a b. hit_of a b (int_lt (pos 0) (turn_at g (aside k m t)))
        (int_lt (turn_at g (aside k m t)) (pos 0)))
        (left_aside t t_in g.a) (left_aside t t_in g.b)
        ∙ ap₂ (hit_of (is_left_of n m g.a) (is_left_of n m g.b)) over under

    -- ---- an edge on which the point does not lie

    -- it is off the edge there, and the ray strikes the edge as from the point
    abbrev IsSame : Edge → Arrow → Type 0
    IsSame g t = (is_on (aside k m t) g ≡ false)
        × (is_struck n (aside k m t) g ≡ is_struck n m g)

    off_by_turn : (p : Spot) (g : Edge) → (turn_at g p ≡ pos 0 → ⊥) → is_on p g ≡ false
    off_by_turn p g apart = by (is_on p g) refl
      where
        by : (on : Bool) → is_on p g ≡ on → is_on p g ≡ false
        by true on = absurd (apart (level_on p g on))
        by false off = off

    off_by_reach : (p : Spot) (g : Edge) → pos 0 <ℤ reach_at g p → is_on p g ≡ false
    off_by_reach p g far = by (is_on p g) refl
      where
        by : (on : Bool) → is_on p g ≡ on → is_on p g ≡ false
        by true on =
            let near =
            at_most_from (reach_at g p) (pos 0)
            (and_parts (int_eq (turn_at g p) (pos 0)) (int_le (reach_at g p) (pos 0)) on).1 in
            absurd (omega (arith, ints))
        by false off = off

    where_left : (g : Edge) → pos 0 <ℤ turn_at g m → Soon (IsSame g)
    where_left g above = soon_then step (soon_form (turn_at g m) (turn_slope g) above)
      where
        step : (t : Arrow) → IsRational t → pos 0 <ℤ t.y
            → pos 0 <ℤ ((t.x *ℤ turn_at g m) +ℤ (t.y *ℤ turn_slope g)) → IsSame g t
        step t t_in t_up form =
            let whole = turn_aside t g in
            let product =
            positive_product t.x ((t.x *ℤ turn_at g m) +ℤ (t.y *ℤ turn_slope g)) t_in form in
            let there : pos 0 <ℤ turn_at g (aside k m t) = omega (arith, ints) in (
              off_by_turn (aside k m t) g (λ zero. omega (arith, ints)),
              hit_aside t t_in g
                  (test_less (pos 0) (turn_at g (aside k m t)) there
                  ∙ sym (test_less (pos 0) (turn_at g m) above))
                  (test_not_less (turn_at g (aside k m t)) (pos 0) (omega (arith, ints))
                  ∙ sym (test_not_less (turn_at g m) (pos 0) (omega (arith, ints)))),
            )

    where_right : (g : Edge) → turn_at g m <ℤ pos 0 → Soon (IsSame g)
    where_right g below =
        soon_then step (soon_form (neg_ℤ (turn_at g m)) (neg_ℤ (turn_slope g)) (omega (arith, ints)))
      where
        opposite_form : (t : Arrow) (a b : ℤ)
            → (t.x *ℤ neg_ℤ a) +ℤ (t.y *ℤ neg_ℤ b) ≡ neg_ℤ ((t.x *ℤ a) +ℤ (t.y *ℤ b))
        opposite_form t a b =
            equal (plus (times (var t.x) (negated (var a))) (times (var t.y) (negated (var b))))
            (negated (plus (times (var t.x) (var a)) (times (var t.y) (var b)))) (omega arith)

        step : (t : Arrow) → IsRational t → pos 0 <ℤ t.y
            → pos 0 <ℤ ((t.x *ℤ neg_ℤ (turn_at g m)) +ℤ (t.y *ℤ neg_ℤ (turn_slope g)))
            → IsSame g t
        step t t_in t_up form =
            let whole = turn_aside t g in
            let turned = opposite_form t (turn_at g m) (turn_slope g) in
            let product =
            negative_product t.x ((t.x *ℤ turn_at g m) +ℤ (t.y *ℤ turn_slope g)) t_in
            (omega (arith, ints)) in
            let there : turn_at g (aside k m t) <ℤ pos 0 = omega (arith, ints) in (
              off_by_turn (aside k m t) g (λ zero. omega (arith, ints)),
              hit_aside t t_in g
                  (test_not_less (pos 0) (turn_at g (aside k m t)) (omega (arith, ints))
                  ∙ sym (test_not_less (pos 0) (turn_at g m) (omega (arith, ints))))
                  (test_less (turn_at g (aside k m t)) (pos 0) there
                  ∙ sym (test_less (turn_at g m) (pos 0) below)),
            )

    -- on its line, but beyond an end
    beyond : (g : Edge) → is_on m g ≡ false → turn_at g m ≡ pos 0 → Soon (IsSame g)
    beyond g off zero = soon_then step (soon_form (reach_at g m) (reach_slope g) far)
      where
        far : pos 0 <ℤ reach_at g m
        far = from (above_or_not (reach_at g m))
          where
            from : (pos 0 <ℤ reach_at g m) ⊎ (reach_at g m ≤ℤ pos 0) → pos 0 <ℤ reach_at g m
            from (inl above) = above
            from (inr near) = absurd (off_edge m g off zero near)

        no_hit : (a b over under : Bool) → (a ≡ not b → ⊥) → hit_of a b over under ≡ false
        no_hit true true over under apart = refl
        no_hit true false over under apart = absurd (apart refl)
        no_hit false true over under apart = absurd (apart refl)
        no_hit false false over under apart = refl

        one_sided : is_left_of n m g.a ≡ not (is_left_of n m g.b) → ⊥
        one_sided sides =
            let over : int_lt (pos 0) (turn_at g m) ≡ false = rw zero refl in
            let under : int_lt (turn_at g m) (pos 0) ≡ false = rw zero refl in
            false≢true (sym over ∙ decided n m g off sides ∙ ap not under)

        step : (t : Arrow) → IsRational t → pos 0 <ℤ t.y
            → pos 0 <ℤ ((t.x *ℤ reach_at g m) +ℤ (t.y *ℤ reach_slope g)) → IsSame g t
        step t t_in t_up form =
            let whole = reach_aside t g in
            let product =
            positive_product t.x ((t.x *ℤ reach_at g m) +ℤ (t.y *ℤ reach_slope g)) t_in form in
            let more =
            weak_product ((t.y *ℤ m.w) *ℤ (t.y *ℤ m.w)) (dot k k) (weak_square (t.y *ℤ m.w))
            (weak_length k) in (
              off_by_reach (aside k m t) g (omega (arith, ints)),
              ap₂
                  (λ a b. hit_of a b (int_lt (pos 0) (turn_at g (aside k m t)))
                  (int_lt (turn_at g (aside k m t)) (pos 0)))
                  (left_aside t t_in g.a) (left_aside t t_in g.b)
                  ∙ no_hit (is_left_of n m g.a) (is_left_of n m g.b)
                  (int_lt (pos 0) (turn_at g (aside k m t)))
                  (int_lt (turn_at g (aside k m t)) (pos 0)) one_sided
                  ∙ sym (none_from_line n m g zero),
            )

    -- so it is near the point with each edge on which it does not lie
    other_edge : (g : Edge) → is_on m g ≡ false → Soon (IsSame g)
    other_edge g off = from (sign_cases (turn_at g m))
      where
        from : ((pos 0 <ℤ turn_at g m) ⊎ (turn_at g m ≡ pos 0)) ⊎ (turn_at g m <ℤ pos 0)
            → Soon (IsSame g)
        from (inl (inl above)) = where_left g above
        from (inl (inr zero)) = beyond g off zero
        from (inr below) = where_right g below

    -- ---- the edge itself

    module _ (e : Edge) (long : IsLong e) (m_is : IsSpot m) (own : IsOwn e m) where
      own_turn : (t : Arrow)
          → turn_at e (aside k m t) ≡ t.x *ℤ (t.y *ℤ (m.w *ℤ (m.w *ℤ cross (span_of e) k)))
      unfolding turn_slope
      own_turn t =
          let turn = cross-turn (seen_from m e.b) k in
          let ends = by_ends_cross e m k in
          let sum : cross (seen_from m e.a) k +ℤ cross k (seen_from m e.b)
          ≡ neg_ℤ (m.w *ℤ cross (span_of e) k) = omega (arith, ints) in
          turn_aside t e
          ∙ ap₂ (λ s u. t.x *ℤ ((t.x *ℤ s) +ℤ (t.y *ℤ (neg_ℤ m.w *ℤ u))))
          (level_along e m long own.along) sum
          ∙ simpler t.x t.y m.w (m.w *ℤ cross (span_of e) k)
        where
          simpler : (x y w z : ℤ)
              → x *ℤ ((x *ℤ pos 0) +ℤ (y *ℤ (neg_ℤ w *ℤ neg_ℤ z))) ≡ x *ℤ (y *ℤ (w *ℤ z))
          simpler x y w z =
              equal
              (times (var x)
              (plus (times (var x) (num 0))
              (times (var y) (times (negated (var w)) (negated (var z))))))
              (times (var x) (times (var y) (times (var w) (var z)))) (omega arith)

      -- a ray with b on its left and a not strikes the edge from its left side alone
      own_hit : pos 0 <ℤ cross n (span_of e) → (t : Arrow) → IsRational t
          → is_struck n (aside k m t) e ≡ int_lt (pos 0) (turn_at e (aside k m t))
      own_hit right t t_in =
          let turn = cross-turn n (span_of e) in
          ap₂
          (λ a b. hit_of a b (int_lt (pos 0) (turn_at e (aside k m t)))
          (int_lt (turn_at e (aside k m t)) (pos 0)))
          (left_aside t t_in e.a ∙ left_of_a e m n long own
          ∙ test_not_less (pos 0) (cross (span_of e) n) (omega (arith, ints)))
          (left_aside t t_in e.b ∙ left_of_b e m n long own
          ∙ test_less (pos 0) (cross n (span_of e)) right)

      -- off the edge, and struck as the side says
      pub own_left : pos 0 <ℤ cross n (span_of e) → pos 0 <ℤ cross (span_of e) k → (t : Arrow)
          → IsRational t → pos 0 <ℤ t.y
          → (is_on (aside k m t) e ≡ false) × (is_struck n (aside k m t) e ≡ true)
      own_left right rises t t_in t_up =
          let whole = own_turn t in
          let one = positive_product m.w (cross (span_of e) k) m_is rises in
          let two = positive_product m.w (m.w *ℤ cross (span_of e) k) m_is one in
          let three = positive_product t.y (m.w *ℤ (m.w *ℤ cross (span_of e) k)) t_up two in
          let four =
          positive_product t.x (t.y *ℤ (m.w *ℤ (m.w *ℤ cross (span_of e) k))) t_in three in (
            off_by_turn (aside k m t) e (λ zero. omega (arith, ints)),
            own_hit right t t_in
                ∙ test_less (pos 0) (turn_at e (aside k m t)) (omega (arith, ints)),
          )

      -- from its right side not
      pub own_right : pos 0 <ℤ cross n (span_of e) → cross (span_of e) k <ℤ pos 0 → (t : Arrow)
          → IsRational t → pos 0 <ℤ t.y
          → (is_on (aside k m t) e ≡ false) × (is_struck n (aside k m t) e ≡ false)
      own_right right falls t t_in t_up =
          let whole = own_turn t in
          let one = negative_product m.w (cross (span_of e) k) m_is falls in
          let two = negative_product m.w (m.w *ℤ cross (span_of e) k) m_is one in
          let three = negative_product t.y (m.w *ℤ (m.w *ℤ cross (span_of e) k)) t_up two in
          let four =
          negative_product t.x (t.y *ℤ (m.w *ℤ (m.w *ℤ cross (span_of e) k))) t_in three in (
            off_by_turn (aside k m t) e (λ zero. omega (arith, ints)),
            own_hit right t t_in
                ∙ test_not_less (pos 0) (turn_at e (aside k m t)) (omega (arith, ints)),
          )

    -- ---- all edges

    module _ (loops : List (List Point)) (e : Edge) (own : IsOwn e m) (long : IsLong e)
        (alone : IsAloneAt (edges_of loops) e m)
        (odd : is_odd_number (is_on m) (edges_of loops) ≡ true) (answer : Bool)
        (own_answer : (t : Arrow) → IsRational t → pos 0 <ℤ t.y
        → (is_on (aside k m t) e ≡ false) × (is_struck n (aside k m t) e ≡ answer)) where
      abbrev Changes : Edge → Arrow → Type 0
      Changes g t = (is_on (aside k m t) g ≡ false)
          × (differ (is_struck n (aside k m t) g) (is_struck n m g) ≡ (is_on m g && answer))

      one_edge : (g : Edge) → Stands g (edges_of loops) → (on : Bool) → is_on m g ≡ on
          → Soon (Changes g)
      one_edge g stands true on =
          soon_always (λ t t_in t_up.
          let known = own_answer t t_in t_up in (
            ap (is_on (aside k m t)) same ∙ known.0,
            ap₂ differ (ap (is_struck n (aside k m t)) same ∙ known.1)
                (none_from_line n m g (level_on m g on))
                ∙ differ-false answer
                ∙ sym (ap (λ s. s && answer) on),
          ))
        where
          same : g ≡ e
          same = alone g stands on
      one_edge g stands false off =
          soon_then
          (λ t t_in t_up known. (
            known.0,
            ap (λ s. differ s (is_struck n m g)) known.1 ∙ differ-self (is_struck n m g)
                ∙ sym (ap (λ s. s && answer) off),
          )) (other_edge g off)

      from_all : (t : Arrow) → IsRational t → IsWay n
          → is_odd_number (is_struck n m) (edges_of loops) ≡ false
          → AllByRecursion (λ g. Changes g t) (edges_of loops)
          → is_in_plan loops (aside k m t) ≡ answer
      from_all t t_in way even all =
          inside_by_ray n (aside k m t) way loops
          ∙ ap₂ (λ s u. not s && u)
          (none_where (is_on (aside k m t)) (edges_of loops)
          (all_follow (λ g known. known.0) (edges_of loops) all))
          (sym (differ-false (is_odd_number (is_struck n (aside k m t)) (edges_of loops)))
          ∙ ap (differ (is_odd_number (is_struck n (aside k m t)) (edges_of loops))) (sym even)
          ∙ sym
          (is_odd_number-differ (is_struck n (aside k m t)) (is_struck n m) (edges_of loops))
          ∙ odd_where_same (λ g. differ (is_struck n (aside k m t) g) (is_struck n m g))
          (λ g. is_on m g && answer) (edges_of loops)
          (all_follow (λ g known. known.1) (edges_of loops) all)
          ∙ is_odd_number-and (is_on m) answer (edges_of loops)
          ∙ ap (λ s. s && answer) odd)

      -- near the point, on this side of it, the loops have one answer
      pub soon_inside : IsWay n → is_odd_number (is_struck n m) (edges_of loops) ≡ false
          → Soon (λ t. is_in_plan loops (aside k m t) ≡ answer)
      soon_inside way even =
          soon_then (λ t t_in t_up all. from_all t t_in way even all)
          (soon_all Changes (edges_of loops)
          (all_that_stand (λ g. Soon (Changes g)) (edges_of loops)
          (λ g stands. one_edge g stands (is_on m g) refl)))
