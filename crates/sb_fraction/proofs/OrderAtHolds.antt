-- The order by the gap at an abscissa is that of the two edges up to the next end or crossing, and
-- it is `Equal` exactly where they are collinear.

use Rattle.std.proofs.Common.{◌≡◌, ◌⊎◌, ◌↔◌, ◌∙◌, inl, inr, ap, ap₂, sym, refl, arith}
use Rattle.std.proofs.Common.{ℤ, pos, neg_ℤ, ◌<ℤ◌, ◌+ℤ◌, ◌-ℤ◌, ◌*ℤ◌, Bool, true, false}
use Rattle.std.proofs.Common.{◌&&◌, ◌||◌, IsTrue, unsigned_abs, nat_le, Equal}
use Rattle.std.proofs.Common.{if◌then◌else◌}
use Rattle.std.proofs.lemmas.Int.{ints}
use Rattle.std.proofs.lemmas.Bool.{and_from, and_parts, or_cases}
use Rattle.std.specs.Ordering.{int_eq, int_cmp}
use Rattle.std.proofs.Common.{int_lt}
use Rattle.std.specs.Cmp.{signed_Decides}
use Rattle.theory_numbers.specs.Arrows.{Arrow, arrow, cross, dot}
use Rattle.theory_numbers.specs.Divisors.{are_coprime}
use Rattle.theory_numbers.specs.Fractions.{Ratio}
use Rattle.theory_numbers.specs.Rationals.{IsRational, IsForm, value_at}
use Rattle.theory_numbers.proofs.Vectors.Arrows.{cross-turn}
use Rattle.theory_numbers.proofs.Ring.{mul_comm, mul-zero, zero-mul, one-mul}
use Rattle.theory_numbers.proofs.Signs.{equal_or_not, less_from}
use Rattle.theory_numbers.proofs.Products.{zero_of_positive, zero_factor, positive_square}
use Rattle.theory_numbers.proofs.Products.{weak_square}
use Rattle.theory_numbers.proofs.Shapes.{dot_eq}
use Rattle.theory_plane.specs.Sides.{clearance}
use Rattle.theory_plane.specs.Leads.{order_on, order_past, MeetsNowhere}
use Rattle.theory_plane.proofs.LeadsUntilMeeting.{order_past_holds}
use Rattle.sb_fraction.specs.Plane.{is_direction, is_forward, longest_step}
use Rattle.sb_fraction.specs.Spots.{spot_at}
use Rattle.sb_fraction.specs.Edges.{Edge, span_of, turn_at, seen_from, are_collinear}
use Rattle.sb_fraction.specs.Crossings.{ends_over, cross_over}
use Rattle.sb_fraction.specs.Lines.{place, flat, line_over, reaches_past, IsBeforeNext}
use Rattle.sb_fraction.specs.Numbers.{number}
use Rattle.sb_fraction.specs.Steps.{turn_between, share_of, gap_between, gap_over, gap_order}
use Rattle.sb_fraction.proofs.SidesOfPoints.{seen_from_point}
use Rattle.sb_fraction.proofs.FractionsInOrder.{equal_is_zero}
use Rattle.sb_fraction.proofs.Meetings.CommonPointHasShares.{turn_by_way}
use Rattle.sb_fraction.proofs.Meetings.CrossingByGap.{plain_gap, gap-x, cross-way}
use Rattle.sb_fraction.proofs.Meetings.CrossingByGap.{crosses_if_zero}
use Rattle.sb_fraction.proofs.GapsTurnedAlong.{gap_is_like, zero_if_like, zero_parts_if_like}
use Rattle.sb_fraction.proofs.GapsTurnedAlong.{zero_slope_if_like}
use Rattle.sb_fraction.proofs.AmidTheEnds.{amid_the_ends, moves_if_reaches}
use Rattle.sb_fraction.proofs.LinesByGaps.{clearance-line_over, clearance_at-line_over}

-- ---- directions and forms

-- a direction has a length
pub length_of_direction : (x y : ℤ) → IsTrue (is_direction x y)
    → pos 0 <ℤ dot (arrow x y) (arrow x y)
unfolding dot
length_of_direction x y direction =
    let last = nat_le (unsigned_abs y) longest_step in
    let middle = nat_le (unsigned_abs x) longest_step in
    let coprime = are_coprime (unsigned_abs x) (unsigned_abs y) in
    let whole = and_parts (coprime && is_forward x y && middle) last direction in
    let half = and_parts (coprime && is_forward x y) middle whole.0 in
    let front = and_parts coprime (is_forward x y) half.0 in
    from (or_cases (int_lt (pos 0) x) (int_eq x (pos 0) && int_eq y (pos 1)) front.1)
  where
    from : (int_lt (pos 0) x ≡ true) ⊎ ((int_eq x (pos 0) && int_eq y (pos 1)) ≡ true)
        → pos 0 <ℤ ((x *ℤ x) +ℤ (y *ℤ y))
    from (inl above) =
        let high = less_from (pos 0) x above in
        let first = positive_square x (λ zero. omega (arith, ints)) in
        let second = weak_square y in
        omega (arith, ints)
    from (inr upright) =
        let parts = and_parts (int_eq x (pos 0)) (int_eq y (pos 1)) upright in
        let one = (signed_Decides y (pos 1)).0 parts.1 in
        let first = weak_square x in
        let second = positive_square y (λ zero. omega (arith, ints)) in
        omega (arith, ints)

-- a form without slope whose value is 0 has no part at 0 either
first_if_zero : (g u : Arrow) → IsRational u → value_at g u ≡ pos 0 → g.y ≡ pos 0 → g.x ≡ pos 0
first_if_zero g u u_in value slope =
    let written = dot_eq g u in
    let none : g.y *ℤ u.y ≡ pos 0 = ap (λ n. n *ℤ u.y) slope ∙ zero-mul u.y in
    let turned = mul_comm u.x g.x in
    zero_of_positive u.x g.x u_in (omega (arith, ints))

value_if_zero : (g u : Arrow) → g.x ≡ pos 0 → g.y ≡ pos 0 → value_at g u ≡ pos 0
value_if_zero g u zero_x zero_y =
    let written = dot_eq g u in
    let first : g.x *ℤ u.x ≡ pos 0 = ap (λ n. n *ℤ u.x) zero_x ∙ zero-mul u.x in
    let second : g.y *ℤ u.y ≡ pos 0 = ap (λ n. n *ℤ u.y) zero_y ∙ zero-mul u.y in
    omega (arith, ints)

-- ---- collinear edges

-- the turn of an edge at the beginning of another
turn_at_first : (e f : Edge) → turn_at e (spot_at f.a) ≡ share_of f e
turn_at_first e f =
    turn_by_way (spot_at f.a) e
    ∙ one-mul (cross (seen_from (spot_at f.a) e.a) (span_of e))
    ∙ ap (λ v. cross v (span_of e)) (seen_from_point f.a e.a)

-- and at its end
turn_at_second : (e f : Edge)
    → turn_at e (spot_at f.b) ≡ share_of f e +ℤ turn_between e f
turn_at_second e f =
    let turn : turn_at e (spot_at f.b)
    ≡ cross (arrow (e.a.x -ℤ f.b.x) (e.a.y -ℤ f.b.y)) (span_of e) =
    turn_by_way (spot_at f.b) e
    ∙ one-mul (cross (seen_from (spot_at f.b) e.a) (span_of e))
    ∙ ap (λ v. cross v (span_of e)) (seen_from_point f.b e.a) in
    let last = cross-way (place f.b) (place e.a) (span_of e) in
    let first = cross-way (place f.a) (place e.a) (span_of e) in
    let way = cross-way (place f.a) (place f.b) (span_of e) in
    let turned = cross-turn (span_of e) (span_of f) in
    omega (arith, ints)

exchanged : (d : Arrow) (e f : Edge) → (plain_gap d f e).x ≡ neg_ℤ ((plain_gap d e f).x)
exchanged d e f =
    of (cross (span_of e) (place e.a) *ℤ dot d (span_of f))
    (cross (span_of f) (place f.a) *ℤ dot d (span_of e))
  where
    of : (p q : ℤ) → p -ℤ q ≡ neg_ℤ (q -ℤ p)
    of p q = omega (arith, ints)

-- edges whose gap is the zero form are collinear, unless the second stands at right angles to d
collinear_if_zero : (d : Arrow) (e f : Edge) → (dot d (span_of f) ≡ pos 0 → ⊥)
    → (plain_gap d e f).x ≡ pos 0 → (plain_gap d e f).y ≡ pos 0 → are_collinear e f ≡ true
collinear_if_zero d e f moves zero_x zero_y =
    let offset = gap-x d f e in
    let back = exchanged d e f in
    let turn : turn_between f e *ℤ dot d (place f.a) ≡ pos 0 =
    ap (λ n. n *ℤ dot d (place f.a)) (cross-turn (span_of e) (span_of f) ∙ ap neg_ℤ zero_y)
    ∙ zero-mul (dot d (place f.a)) in
    let turned = mul_comm (dot d (span_of f)) (share_of f e) in
    let share = zero_factor (dot d (span_of f)) (share_of f e) moves (omega (arith, ints)) in
    let first = turn_at_first e f in
    let second = turn_at_second e f in
    and_from (int_eq (turn_at e (spot_at f.a)) (pos 0)) (int_eq (turn_at e (spot_at f.b)) (pos 0))
    ((signed_Decides (turn_at e (spot_at f.a)) (pos 0)).1 (first ∙ share))
    ((signed_Decides (turn_at e (spot_at f.b)) (pos 0)).1 (omega (arith, ints)))

-- and collinear edges have a gap that is the zero form
zero_if_collinear : (d : Arrow) (e f : Edge) → are_collinear e f ≡ true
    → ((plain_gap d e f).x ≡ pos 0) × ((plain_gap d e f).y ≡ pos 0)
zero_if_collinear d e f collinear =
    let parts = and_parts (int_eq (turn_at e (spot_at f.a)) (pos 0))
    (int_eq (turn_at e (spot_at f.b)) (pos 0)) collinear in
    let at_first = (signed_Decides (turn_at e (spot_at f.a)) (pos 0)).0 parts.0 in
    let at_second = (signed_Decides (turn_at e (spot_at f.b)) (pos 0)).0 parts.1 in
    let first = turn_at_first e f in
    let second = turn_at_second e f in
    let share : share_of f e ≡ pos 0 = sym first ∙ at_first in
    let slope : turn_between e f ≡ pos 0 = omega (arith, ints) in
    let offset = gap-x d f e in
    let back = exchanged d e f in
    let one : turn_between f e *ℤ dot d (place f.a) ≡ pos 0 =
    ap (λ n. n *ℤ dot d (place f.a)) (cross-turn (span_of e) (span_of f) ∙ ap neg_ℤ slope)
    ∙ zero-mul (dot d (place f.a)) in
    let other : share_of f e *ℤ dot d (span_of f) ≡ pos 0 =
    ap (λ n. n *ℤ dot d (span_of f)) share ∙ zero-mul (dot d (span_of f)) in
    (omega (arith, ints), slope)

by_slope : (v s : ℤ) → v ≡ pos 0 → gap_order v s ≡ int_cmp (pos 0) s
by_slope v s zero = pick (int_eq v (pos 0)) ((signed_Decides v (pos 0)).1 zero)
  where
    pick : (b : Bool) → b ≡ true
        → (if b then int_cmp (pos 0) s else int_cmp (pos 0) v) ≡ int_cmp (pos 0) s
    pick true test = refl
    pick false test = absurd (cc)

by_value : (v s : ℤ) → (v ≡ pos 0 → ⊥) → gap_order v s ≡ int_cmp (pos 0) v
by_value v s other = pick (int_eq v (pos 0)) (λ test. other ((signed_Decides v (pos 0)).0 test))
  where
    pick : (b : Bool) → (b ≡ true → ⊥)
        → (if b then int_cmp (pos 0) s else int_cmp (pos 0) v) ≡ int_cmp (pos 0) v
    pick true test = absurd (test refl)
    pick false test = refl

-- an order by a gap is `Equal` exactly where the gap and its slope are 0
zero_if_equal : (v s : ℤ) → gap_order v s ≡ Equal → (v ≡ pos 0) × (s ≡ pos 0)
zero_if_equal v s answer = from (equal_or_not v (pos 0))
  where
    from : (v ≡ pos 0) ⊎ (v ≡ pos 0 → ⊥) → (v ≡ pos 0) × (s ≡ pos 0)
    from (inl zero) = (zero, equal_is_zero s (sym (by_slope v s zero) ∙ answer))
    from (inr other) =
        absurd (other (equal_is_zero v (sym (by_value v s other) ∙ answer)))

equal_if_zero : (v s : ℤ) → v ≡ pos 0 → s ≡ pos 0 → gap_order v s ≡ Equal
equal_if_zero v s zero null = ap₂ gap_order zero null

-- so two edges that reach past an abscissa are collinear exactly where their order there is `Equal`
pub equal_is_collinear : (d : Arrow) (e f : Edge) (u : Arrow) → IsRational u
    → reaches_past d u f ≡ true
    → (gap_order (value_at (gap_over d e f) u) (gap_over d e f).y ≡ Equal)
    ↔ IsTrue (are_collinear e f)
equal_is_collinear d e f u u_in reaches = (to, from)
  where
    to : gap_order (value_at (gap_over d e f) u) (gap_over d e f).y ≡ Equal
        → are_collinear e f ≡ true
    to answer =
        let g = gap_over d e f in
        let h = plain_gap d e f in
        let like = gap_is_like d e f in
        let zero = zero_if_equal (value_at g u) g.y answer in
        let slope = zero_slope_if_like g h like zero.1 in
        let value = zero_if_like g h u like zero.0 in
        collinear_if_zero d e f (moves_if_reaches d f u reaches)
        (first_if_zero h u u_in value slope) slope

    from : are_collinear e f ≡ true
        → gap_order (value_at (gap_over d e f) u) (gap_over d e f).y ≡ Equal
    from collinear =
        let g = gap_over d e f in
        let plain = zero_if_collinear d e f collinear in
        let parts = zero_parts_if_like g (plain_gap d e f) (gap_is_like d e f) plain.0 plain.1 in
        equal_if_zero (value_at g u) g.y (value_if_zero g u parts.0 parts.1) parts.1

-- ---- up to the next end or crossing

no_first : (a b c : Bool) → ((a || b) || c) ≡ false → a ≡ true → ⊥
no_first true b c none some = cc
no_first false b c none some = cc

no_second : (a b c : Bool) → ((a || b) || c) ≡ false → b ≡ true → ⊥
no_second true b c none some = cc
no_second false true c none some = cc
no_second false false c none some = cc

no_third : (a b c : Bool) → ((a || b) || c) ≡ false → c ≡ true → ⊥
no_third a b true none some = clash a b none
  where
    clash : (a b : Bool) → ((a || b) || true) ≡ false → ⊥
    clash true b none = cc
    clash false true none = cc
    clash false false none = cc
no_third a b false none some = cc

-- two edges meet nowhere before the next end or crossing of the two
meets_nowhere : (d : Arrow) (e f : Edge) (w u : Arrow) → pos 0 <ℤ dot d d → IsRational w
    → reaches_past d w e ≡ true → reaches_past d w f ≡ true → IsBeforeNext d e f w u
    → IsForm (clearance (line_over d e) (line_over d f))
    → MeetsNowhere w u (line_over d e) (line_over d f)
meets_nowhere d e f w u d_in w_in reaches_e reaches_f before form y y_in after within zero =
    let like = gap_is_like d e f in
    let value : value_at (gap_over d e f) y ≡ pos 0 =
    zero_of_positive (dot d d) (value_at (gap_over d e f) y) d_in
    (sym (clearance_at-line_over d e f y) ∙ zero) in
    let plain = zero_if_like (gap_over d e f) (plain_gap d e f) y like value in
    no_third (ends_over (flat d) y e) (ends_over (flat d) y f) (cross_over (flat d) y e f)
    (before.none y y_in after within)
    (crosses_if_zero d y e f (turned plain) plain
    (amid_the_ends d e w y u w_in y_in before.rational after within reaches_e
    (λ z z_in z_after z_within ends.
    no_first (ends_over (flat d) z e) (ends_over (flat d) z f) (cross_over (flat d) z e f)
    (before.none z z_in z_after z_within) ends))
    (amid_the_ends d f w y u w_in y_in before.rational after within reaches_f
    (λ z z_in z_after z_within ends.
    no_second (ends_over (flat d) z e) (ends_over (flat d) z f) (cross_over (flat d) z e f)
    (before.none z z_in z_after z_within) ends)))
  where
    turned : value_at (plain_gap d e f) y ≡ pos 0 → turn_between e f ≡ pos 0 → ⊥
    turned plain slope =
        let parts = zero_parts_if_like (gap_over d e f) (plain_gap d e f) (gap_is_like d e f)
        (first_if_zero (plain_gap d e f) y y_in plain slope) slope in
        let same = clearance-line_over d e f in
        form (
          ap (λ (k : Arrow). k.x) same ∙ ap (λ n. dot d d *ℤ n) parts.0 ∙ mul-zero (dot d d),
          ap (λ (k : Arrow). k.y) same ∙ ap (λ n. dot d d *ℤ n) parts.1 ∙ mul-zero (dot d d),
        )

-- the order just after w is the order at each abscissa before the next end or crossing
pub order_holds : (d : Arrow) (e f : Edge) (w u : Arrow) → pos 0 <ℤ dot d d → IsRational w
    → reaches_past d w e ≡ true → reaches_past d w f ≡ true → IsBeforeNext d e f w u
    → order_past w (line_over d e) (line_over d f) ≡ order_on (line_over d e) (line_over d f) u
order_holds d e f w u d_in w_in reaches_e reaches_f before =
    order_past_holds w u (line_over d e) (line_over d f) w_in before.rational before.after
    (meets_nowhere d e f w u d_in w_in reaches_e reaches_f before)

-- the order that the numbers of the code show
pub order_of_parts : (d s a t b s' t' : Arrow) (r : Ratio) (offset slope gap : ℤ)
    → s ≡ s' → t ≡ t' → offset ≡ (gap_between d s a t b).x → slope ≡ cross s t
    → gap ≡ (offset *ℤ r.den) +ℤ (r.num *ℤ slope)
    → gap_order gap slope
    ≡ gap_order (value_at (gap_between d s' a t' b) (number r)) (gap_between d s' a t' b).y
order_of_parts d s a t b s' t' r offset slope gap same_s same_t is_offset is_slope is_gap =
    ap₂ gap_order value is_slope
    ∙ ap₂
    (λ m n.
    gap_order (value_at (gap_between d m a n b) (number r)) (gap_between d m a n b).y)
    same_s same_t
  where
    value : gap ≡ value_at (gap_between d s a t b) (number r)
    value =
        let written = dot_eq (gap_between d s a t b) (number r) in
        let first : offset *ℤ r.den ≡ (gap_between d s a t b).x *ℤ r.den =
        ap (λ n. n *ℤ r.den) is_offset in
        let second : r.num *ℤ slope ≡ cross s t *ℤ r.num =
        mul_comm r.num slope ∙ ap (λ n. n *ℤ r.num) is_slope in
        omega (arith, ints)
