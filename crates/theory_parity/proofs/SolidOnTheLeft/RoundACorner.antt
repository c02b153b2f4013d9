-- At a bent corner where no other edge comes the points just right of the two edges have one
-- answer: the rays back along them, from their middles, strike an odd number of edges both or an
-- even one.

use Rattle.std.proofs.Common.{◌≡◌, refl, sym, ap, ap₂, ◌∙◌, ◌⊎◌, inl, inr, arith, ℤ, pos, neg_ℤ}
use Rattle.std.proofs.Common.{◌<ℤ◌, ◌+ℤ◌, ◌-ℤ◌, ◌*ℤ◌, Bool, true, false, not, ◌&&◌, int_lt}
use Rattle.std.proofs.Common.{List}
use Rattle.std.proofs.lemmas.Int.{ints}
use Rattle.std.proofs.lemmas.Bool.{false≢true}
use Rattle.theory_lists.specs.Members.{Stands}
use Rattle.theory_lists.specs.Parity.{differ, is_odd_number}
use Rattle.theory_lists.proofs.Parity.{differ-self, differ-false, differ_comm, odd_where_same}
use Rattle.theory_lists.proofs.Parity.{is_odd_number-differ, differ_cancel}
use Rattle.theory_numbers.specs.Tests.{is_positive}
use Rattle.theory_numbers.specs.Arrows.{Arrow, cross, opposite}
use Rattle.theory_numbers.proofs.Vectors.Arrows.{same_arrow, cross-turn, cross-self, cross-opposite}
use Rattle.theory_numbers.proofs.Vectors.Arrows.{opposite-cross}
use Rattle.theory_numbers.proofs.Shapes.{var, num, plus, minus, negated, times, equal, cross_by}
use Rattle.theory_numbers.proofs.Signs.{test_less, test_not_less, less_from}
use Rattle.theory_numbers.proofs.Signs.{sign_cases}
use Rattle.theory_numbers.proofs.SignTables.{hit_of}
use Rattle.theory_lists.proofs.Members.{all_that_stand}
use Rattle.theory_numbers.proofs.Multiples.{sign_of_multiple}
use Rattle.sb_fraction.specs.declared.point.Point.{Point}
use Rattle.sb_fraction.specs.Spots.{Spot, spot_at}
use Rattle.sb_fraction.specs.Edges.{Edge, edge, span_of, seen_from, turn_at, is_on}
use Rattle.theory_plans.specs.LoopEdges.{edges_of}
use Rattle.theory_plans.specs.Plans.{middle_of}
use Rattle.theory_plans.specs.Rays.{is_left_of, is_struck}
use Rattle.theory_parity.specs.Halves.{on_way}
use Rattle.theory_parity.proofs.Rays.AnyRay.{is_in_wedge}
use Rattle.theory_parity.proofs.FromPointToPoint.Moves.{IsClearOf, way_to, same_ray}
use Rattle.theory_parity.proofs.SolidOnTheLeft.OwnPoints.{IsAlong, IsPastA, IsBeforeB, IsOwn, IsLong}
use Rattle.theory_parity.proofs.SolidOnTheLeft.OwnPoints.{level_along, on_along, along_between, past_between}
use Rattle.theory_parity.proofs.SolidOnTheLeft.OwnPoints.{before_between, middle_is_own, a_from_middle}
use Rattle.theory_parity.proofs.SolidOnTheLeft.OwnPoints.{b_from_middle, cross-corner, a_from_end, b_from_end}
use Rattle.theory_parity.proofs.SolidOnTheLeft.OwnPoints.{end_is_along, end_is_past, begin_is_along}
use Rattle.theory_parity.proofs.SolidOnTheLeft.OwnPoints.{begin_is_before}
use Rattle.theory_parity.proofs.SolidOnTheLeft.RaysAnywhere.{none_from_line, level_on, is_swept, turned_anywhere}

-- but for e and f no edge of the list comes to e past its beginning, nor to f before its end
pub record MeetAlone (es : List Edge) (e f : Edge) : Type 0 where
  pub arriving : (p : Spot) → IsAlong e p → IsPastA e p → (g : Edge) → Stands g es
      → is_on p g ≡ true → (g ≡ e) ⊎ (g ≡ f)
  pub leaving : (p : Spot) → IsAlong f p → IsBeforeB f p → (g : Edge) → Stands g es
      → is_on p g ≡ true → (g ≡ e) ⊎ (g ≡ f)

-- ---- tables

missed : (b over under : Bool) → (b ≡ true → over ≡ false) → hit_of false b over under ≡ false
missed true over under none = none refl
missed false over under none = refl

met : (a over under : Bool) → (a ≡ true → under ≡ true) → hit_of a false over under ≡ a
met true over under some = some refl
met false over under some = refl

no_wedge : (s t : Bool) → s ≡ false → (s && not t) ≡ false
no_wedge s t none = rw none refl

-- from one point of the edge's line to the other
from_corner_to_middle : (a c : Point)
    → way_to (spot_at c) (middle_of (edge a c)) ≡ opposite (span_of (edge a c))
from_corner_to_middle a c =
    same_arrow (way_to (spot_at c) (middle_of (edge a c))) (opposite (span_of (edge a c)))
    (by a.x c.x) (by a.y c.y)
  where
    by : (s t : ℤ) → ((s +ℤ t) *ℤ pos 1) -ℤ (t *ℤ pos 2) ≡ neg_ℤ (t -ℤ s)
    by s t =
        equal (minus (times (plus (var s) (var t)) (num 1)) (times (var t) (num 2)))
        (negated (minus (var t) (var s))) (omega arith)

from_middle_to_corner : (c b : Point)
    → way_to (middle_of (edge c b)) (spot_at c) ≡ opposite (span_of (edge c b))
from_middle_to_corner c b =
    same_arrow (way_to (middle_of (edge c b)) (spot_at c)) (opposite (span_of (edge c b)))
    (by c.x b.x) (by c.y b.y)
  where
    by : (s t : ℤ) → (s *ℤ pos 2) -ℤ ((s +ℤ t) *ℤ pos 1) ≡ neg_ℤ (t -ℤ s)
    by s t =
        equal (minus (times (var s) (num 2)) (times (plus (var s) (var t)) (num 1)))
        (negated (minus (var t) (var s))) (omega arith)

module _ (loops : List (List Point)) (a c b : Point) (long_e : IsLong (edge a c))
    (long_f : IsLong (edge c b)) (meet : MeetAlone (edges_of loops) (edge a c) (edge c b))
    (bent : cross (span_of (edge a c)) (span_of (edge c b)) ≡ pos 0 → ⊥) where
  abbrev e : Edge
  e = edge a c

  abbrev f : Edge
  f = edge c b

  abbrev corner : Spot
  corner = spot_at c

  abbrev back_e : Arrow
  back_e = opposite (span_of e)

  abbrev back_f : Arrow
  back_f = opposite (span_of f)

  abbrev middle_e : Spot
  middle_e = middle_of e

  abbrev middle_f : Spot
  middle_f = middle_of f

  own_e : IsOwn e middle_e
  own_e = middle_is_own e long_e

  own_f : IsOwn f middle_f
  own_f = middle_is_own f long_f

  corner_on_e : is_on corner e ≡ true
  corner_on_e = on_along e corner long_e (end_is_along a c long_e)

  corner_on_f : is_on corner f ≡ true
  corner_on_f = on_along f corner long_f (begin_is_along c b long_f)

  -- ---- edges that do not come to the corner

  off_way : (p : Spot) (g : Edge) → is_on corner g ≡ false
      → (is_on p g ≡ true → (g ≡ e) ⊎ (g ≡ f)) → is_on p g ≡ false
  off_way p g off known = by (is_on p g) refl
    where
      clash : (g ≡ e) ⊎ (g ≡ f) → ⊥
      clash (inl same) = false≢true (sym off ∙ ap (is_on corner) same ∙ corner_on_e)
      clash (inr same) = false≢true (sym off ∙ ap (is_on corner) same ∙ corner_on_f)

      by : (on : Bool) → is_on p g ≡ on → is_on p g ≡ false
      by true on = absurd (clash (known on))
      by false none = none

  clear_of_e : (g : Edge) → Stands g (edges_of loops) → is_on corner g ≡ false
      → IsClearOf corner middle_e g
  clear_of_e g stands off k l k_in l_in some =
      off_way (on_way k corner l middle_e) g off
      (meet.arriving (on_way k corner l middle_e)
      (along_between k l k_in l_in some e corner middle_e (end_is_along a c long_e) own_e.along)
      (past_between k l k_in l_in some e corner middle_e (end_is_along a c long_e) own_e.along
      (end_is_past a c long_e) own_e.past) g stands)

  clear_of_f : (g : Edge) → Stands g (edges_of loops) → is_on corner g ≡ false
      → IsClearOf middle_f corner g
  clear_of_f g stands off k l k_in l_in some =
      off_way (on_way k middle_f l corner) g off
      (meet.leaving (on_way k middle_f l corner)
      (along_between k l k_in l_in some f middle_f corner own_f.along (begin_is_along c b long_f))
      (before_between k l k_in l_in some f middle_f corner own_f.along (begin_is_along c b long_f)
      own_f.before (begin_is_before c b long_f)) g stands)

  -- the ray back along e strikes them from its middle as from the corner
  same_back_e : (g : Edge) → Stands g (edges_of loops) → is_on corner g ≡ false
      → is_struck back_e middle_e g ≡ is_struck back_e corner g
  same_back_e g stands off =
      sym (ap (λ r. is_struck r middle_e g) (from_corner_to_middle a c))
      ∙ sym (same_ray corner middle_e g (omega (arith, ints)) (omega (arith, ints))
      (clear_of_e g stands off))
      ∙ ap (λ r. is_struck r corner g) (from_corner_to_middle a c)

  same_back_f : (g : Edge) → Stands g (edges_of loops) → is_on corner g ≡ false
      → is_struck back_f middle_f g ≡ is_struck back_f corner g
  same_back_f g stands off =
      sym (ap (λ r. is_struck r middle_f g) (from_middle_to_corner c b))
      ∙ same_ray middle_f corner g (omega (arith, ints)) (omega (arith, ints))
      (clear_of_f g stands off)
      ∙ ap (λ r. is_struck r corner g) (from_middle_to_corner c b)

  -- ---- the two edges themselves

  -- the ray back along e misses f
  misses_f : is_struck back_e middle_e f ≡ false
  misses_f =
      ap (λ t. hit_of t (is_left_of back_e middle_e b) (int_lt (pos 0) (turn_at f middle_e))
      (int_lt (turn_at f middle_e) (pos 0))) right_c
      ∙ missed (is_left_of back_e middle_e b) (int_lt (pos 0) (turn_at f middle_e))
      (int_lt (turn_at f middle_e) (pos 0)) beside
    where
      right_c : is_left_of back_e middle_e c ≡ false
      right_c =
          let seen = ap (cross back_e) (b_from_middle e) in
          let turned = opposite-cross (span_of e) (span_of e) in
          let self = cross-self (span_of e) in
          test_not_less (pos 0) (cross back_e (seen_from middle_e c)) (omega (arith, ints))

      beside : is_left_of back_e middle_e b ≡ true → int_lt (pos 0) (turn_at f middle_e) ≡ false
      beside left =
          let above = less_from (pos 0) (cross back_e (seen_from middle_e b)) left in
          let turned = opposite-cross (span_of e) (seen_from middle_e b) in
          let seen = ap (λ r. cross r (seen_from middle_e b)) (b_from_middle e) in
          test_not_less (pos 0) (turn_at f middle_e) (omega (arith, ints))

  -- the ray back along f strikes e where the way turns to the right at the corner
  meets_e : is_struck back_f middle_f e ≡ is_positive (cross (span_of f) (span_of e))
  meets_e =
      ap (λ t. hit_of (is_left_of back_f middle_f a) t (int_lt (pos 0) (turn_at e middle_f))
      (int_lt (turn_at e middle_f) (pos 0))) right_c
      ∙ met (is_left_of back_f middle_f a) (int_lt (pos 0) (turn_at e middle_f))
      (int_lt (turn_at e middle_f) (pos 0)) beside
      ∙ ap is_positive twice
      ∙ sign_of_multiple (pos 2) (cross (span_of f) (span_of e)) (omega (arith, ints))
    where
      right_c : is_left_of back_f middle_f c ≡ false
      right_c =
          let seen = ap (cross back_f) (a_from_middle f) in
          let self = cross-self back_f in
          test_not_less (pos 0) (cross back_f (seen_from middle_f c)) (omega (arith, ints))

      beside : is_left_of back_f middle_f a ≡ true → int_lt (turn_at e middle_f) (pos 0) ≡ true
      beside left =
          let above = less_from (pos 0) (cross back_f (seen_from middle_f a)) left in
          let turn = cross-turn back_f (seen_from middle_f a) in
          let seen = ap (cross (seen_from middle_f a)) (a_from_middle f) in
          test_less (turn_at e middle_f) (pos 0) (omega (arith, ints))

      twice : cross back_f (seen_from middle_f a) ≡ pos 2 *ℤ cross (span_of f) (span_of e)
      twice =
          equal
          (cross_by back_f (seen_from middle_f a)
          (negated (minus (var b.x) (var c.x))) (negated (minus (var b.y) (var c.y)))
          (minus (times (var a.x) (num 2)) (plus (var c.x) (var b.x)))
          (minus (times (var a.y) (num 2)) (plus (var c.y) (var b.y))))
          (times (num 2)
          (cross_by (span_of f) (span_of e)
          (minus (var b.x) (var c.x)) (minus (var b.y) (var c.y))
          (minus (var c.x) (var a.x)) (minus (var c.y) (var a.y))))
          (omega arith)

  -- ---- from the middle of e to the corner

  at_corner_e : (g : Edge) → Stands g (edges_of loops) → (on : Bool) → is_on corner g ≡ on
      → is_struck back_e middle_e g ≡ is_struck back_e corner g
  at_corner_e g stands false off = same_back_e g stands off
  at_corner_e g stands true on =
      from (meet.arriving corner (end_is_along a c long_e) (end_is_past a c long_e) g stands on)
      ∙ sym (none_from_line back_e corner g (level_on corner g on))
    where
      from : (g ≡ e) ⊎ (g ≡ f) → is_struck back_e middle_e g ≡ false
      from (inl same) =
          ap (is_struck back_e middle_e) same
          ∙ none_from_line back_e middle_e e (level_along e middle_e long_e own_e.along)
      from (inr same) = ap (is_struck back_e middle_e) same ∙ misses_f

  odd_at_corner_e : is_odd_number (is_struck back_e middle_e) (edges_of loops)
      ≡ is_odd_number (is_struck back_e corner) (edges_of loops)
  odd_at_corner_e =
      odd_where_same (is_struck back_e middle_e) (is_struck back_e corner) (edges_of loops)
      (all_that_stand (λ g. is_struck back_e middle_e g ≡ is_struck back_e corner g)
      (edges_of loops) (λ g stands. at_corner_e g stands (is_on corner g) refl))

  -- ---- from the corner to the middle of f

  abbrev bend_right : ℤ
  bend_right = cross (span_of f) (span_of e)

  change_at : (r s : Arrow) → is_swept r s corner e ≡ is_positive bend_right
      → is_swept r s corner f ≡ false → (g : Edge) → Stands g (edges_of loops)
      → (on : Bool) → is_on corner g ≡ on
      → differ (is_struck back_f middle_f g) (is_struck back_f corner g) ≡ is_swept r s corner g
  change_at r s at_e at_f g stands false off =
      ap (λ t. differ t (is_struck back_f corner g)) (same_back_f g stands off)
      ∙ differ-self (is_struck back_f corner g)
      ∙ sym (ap (λ t. t && differ (is_in_wedge r s corner g.a) (is_in_wedge r s corner g.b)) off)
  change_at r s at_e at_f g stands true on =
      ap (differ (is_struck back_f middle_f g))
      (none_from_line back_f corner g (level_on corner g on))
      ∙ differ-false (is_struck back_f middle_f g)
      ∙ from (meet.arriving corner (end_is_along a c long_e) (end_is_past a c long_e) g stands on)
    where
      from : (g ≡ e) ⊎ (g ≡ f) → is_struck back_f middle_f g ≡ is_swept r s corner g
      from (inl same) =
          ap (is_struck back_f middle_f) same ∙ meets_e ∙ sym (ap (is_swept r s corner) same ∙ at_e)
      from (inr same) =
          ap (is_struck back_f middle_f) same
          ∙ none_from_line back_f middle_f f (level_along f middle_f long_f own_f.along)
          ∙ sym (ap (is_swept r s corner) same ∙ at_f)

  odd_change : (r s : Arrow) → is_swept r s corner e ≡ is_positive bend_right
      → is_swept r s corner f ≡ false
      → differ (is_odd_number (is_struck back_f middle_f) (edges_of loops))
      (is_odd_number (is_struck back_f corner) (edges_of loops))
      ≡ is_odd_number (is_swept r s corner) (edges_of loops)
  odd_change r s at_e at_f =
      sym (is_odd_number-differ (is_struck back_f middle_f) (is_struck back_f corner)
      (edges_of loops))
      ∙ odd_where_same
      (λ g. differ (is_struck back_f middle_f g) (is_struck back_f corner g))
      (is_swept r s corner) (edges_of loops)
      (all_that_stand
      (λ g. differ (is_struck back_f middle_f g) (is_struck back_f corner g)
      ≡ is_swept r s corner g)
      (edges_of loops) (λ g stands. change_at r s at_e at_f g stands (is_on corner g) refl))

  -- the ends, beside the two rays from the corner
  none_c : (r : Arrow) → is_left_of r corner c ≡ false
  none_c r =
      let level = cross-corner r c in
      test_not_less (pos 0) (cross r (seen_from corner c)) (omega (arith, ints))

  e_left_of_a : is_left_of back_e corner a ≡ false
  e_left_of_a =
      let seen = ap (cross back_e) (a_from_end a c) in
      let self = cross-self back_e in
      test_not_less (pos 0) (cross back_e (seen_from corner a)) (omega (arith, ints))

  f_left_of_a : is_left_of back_f corner a ≡ is_positive bend_right
  f_left_of_a =
      ap (λ v. is_positive (cross back_f v)) (a_from_end a c)
      ∙ ap is_positive
      (opposite-cross (span_of f) back_e ∙ ap neg_ℤ (cross-opposite (span_of f) (span_of e))
      ∙ twice_turned (cross (span_of f) (span_of e)))
    where
      twice_turned : (z : ℤ) → neg_ℤ (neg_ℤ z) ≡ z
      twice_turned z = omega (arith, ints)

  e_left_of_b : is_left_of back_e corner b ≡ is_positive bend_right
  e_left_of_b =
      ap (λ v. is_positive (cross back_e v)) (b_from_end c b)
      ∙ ap is_positive
      (opposite-cross (span_of e) (span_of f) ∙ sym (cross-turn (span_of e) (span_of f)))

  f_left_of_b : is_left_of back_f corner b ≡ false
  f_left_of_b =
      let seen = ap (cross back_f) (b_from_end c b) in
      let turned = opposite-cross (span_of f) (span_of f) in
      let self = cross-self (span_of f) in
      test_not_less (pos 0) (cross back_f (seen_from corner b)) (omega (arith, ints))

  rays : cross back_e back_f ≡ neg_ℤ bend_right
  rays =
      let turned = opposite-cross (span_of e) back_f in
      let other = cross-opposite (span_of e) (span_of f) in
      let turn = cross-turn (span_of f) (span_of e) in
      omega (arith, ints)

  -- where the way turns to the left, the turn from the one ray to the other passes neither edge
  left_bend : bend_right <ℤ pos 0
      → is_odd_number (is_struck back_f middle_f) (edges_of loops)
      ≡ is_odd_number (is_struck back_e corner) (edges_of loops)
  left_bend left =
      differ_cancel (is_odd_number (is_struck back_f middle_f) (edges_of loops))
      (is_odd_number (is_struck back_e corner) (edges_of loops))
      (is_odd_number (is_struck back_f corner) (edges_of loops))
      (odd_change back_e back_f at_e at_f
      ∙ sym (turned_anywhere back_e back_f corner (omega (arith, ints, rays)) loops))
    where
      none : is_positive bend_right ≡ false
      none = test_not_less (pos 0) bend_right (omega (arith, ints))

      at_e : is_swept back_e back_f corner e ≡ is_positive bend_right
      at_e =
          ap₂ (λ s t. s && t) corner_on_e
          (ap₂ differ
          (no_wedge (is_left_of back_e corner a) (is_left_of back_f corner a) e_left_of_a)
          (no_wedge (is_left_of back_e corner c) (is_left_of back_f corner c) (none_c back_e)))
          ∙ sym none

      at_f : is_swept back_e back_f corner f ≡ false
      at_f =
          ap₂ (λ s t. s && t) corner_on_f
          (ap₂ differ
          (no_wedge (is_left_of back_e corner c) (is_left_of back_f corner c) (none_c back_e))
          (no_wedge (is_left_of back_e corner b) (is_left_of back_f corner b)
          (e_left_of_b ∙ none)))

  -- where it turns to the right, it passes e
  right_bend : pos 0 <ℤ bend_right
      → is_odd_number (is_struck back_f middle_f) (edges_of loops)
      ≡ is_odd_number (is_struck back_e corner) (edges_of loops)
  right_bend right =
      differ_cancel (is_odd_number (is_struck back_f middle_f) (edges_of loops))
      (is_odd_number (is_struck back_e corner) (edges_of loops))
      (is_odd_number (is_struck back_f corner) (edges_of loops))
      (odd_change back_f back_e at_e at_f
      ∙ sym (turned_anywhere back_f back_e corner (omega (arith, ints, rays, turn)) loops)
      ∙ differ_comm (is_odd_number (is_struck back_f corner) (edges_of loops))
      (is_odd_number (is_struck back_e corner) (edges_of loops)))
    where
      turn : cross back_f back_e ≡ neg_ℤ (cross back_e back_f)
      turn = cross-turn back_e back_f

      some : is_positive bend_right ≡ true
      some = test_less (pos 0) bend_right right

      wedge_a : is_in_wedge back_f back_e corner a ≡ true
      wedge_a = ap₂ (λ s t. s && not t) (f_left_of_a ∙ some) e_left_of_a

      at_e : is_swept back_f back_e corner e ≡ is_positive bend_right
      at_e =
          ap₂ (λ s t. s && t) corner_on_e
          (ap₂ differ wedge_a
          (no_wedge (is_left_of back_f corner c) (is_left_of back_e corner c) (none_c back_f)))
          ∙ sym some

      at_f : is_swept back_f back_e corner f ≡ false
      at_f =
          ap₂ (λ s t. s && t) corner_on_f
          (ap₂ differ
          (no_wedge (is_left_of back_f corner c) (is_left_of back_e corner c) (none_c back_f))
          (no_wedge (is_left_of back_f corner b) (is_left_of back_e corner b) f_left_of_b))

  -- the rays back along the two edges have one answer
  pub round_a_corner : is_odd_number (is_struck back_e middle_e) (edges_of loops)
      ≡ is_odd_number (is_struck back_f middle_f) (edges_of loops)
  round_a_corner = odd_at_corner_e ∙ sym (from (sign_cases bend_right))
    where
      from : ((pos 0 <ℤ bend_right) ⊎ (bend_right ≡ pos 0)) ⊎ (bend_right <ℤ pos 0)
          → is_odd_number (is_struck back_f middle_f) (edges_of loops)
          ≡ is_odd_number (is_struck back_e corner) (edges_of loops)
      from (inl (inl right)) = right_bend right
      from (inl (inr none)) =
          let turn = cross-turn (span_of e) (span_of f) in
          absurd (bent (omega (arith, ints)))
      from (inr left) = left_bend left
