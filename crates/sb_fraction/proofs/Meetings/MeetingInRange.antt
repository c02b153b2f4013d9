-- The common point of two edges in range is within its bound, and it is the only one.

use Rattle.std.proofs.Common.{◌≡◌, ◌⊎◌, ◌∙◌, inl, inr, ap, subst}
use Rattle.std.proofs.Common.{sym, refl, arith, ℕ, ℤ, pos, neg_ℤ}
use Rattle.std.proofs.Common.{◌≤◌, ◌<ℤ◌, ◌≤ℤ◌, ◌+ℤ◌, ◌-ℤ◌, ◌*ℤ◌, ◌*◌, Bool, true, false}
use Rattle.std.proofs.Common.{int_lt, int_le, unsigned_abs, IsTrue, le_trans, le_refl, lit≤}
use Rattle.std.proofs.Common.{if◌then◌else◌}
use Rattle.std.proofs.Math.Nat.{mul-le-mul}
use Rattle.std.proofs.lemmas.Int.{to_z-of_z, ints, unsigned_abs-mul, by_lt_z}
use Rattle.std.proofs.lemmas.Bool.{and_from, and_parts, leb-true, le-leb}
use Rattle.std.specs.Ordering.{int_eq}
use Rattle.std.specs.Cmp.{signed_Decides}
use Rattle.theory_numbers.specs.Arrows.{Arrow, scale}
use Rattle.theory_numbers.proofs.Ring.{mul-neg, neg-mul, neg-mul-neg, mul_comm, mul-sub}
use Rattle.theory_numbers.proofs.Signs.{at_most_from, less_from, not_less_from, sign_cases}
use Rattle.theory_numbers.proofs.Products.{scale_at_most, weak_negative_product}
use Rattle.theory_numbers.proofs.Products.{positive_product, product_of_negatives}
use Rattle.theory_numbers.proofs.Shapes.{var, plus, minus, times, negated, equal}
use Rattle.sb_fraction.specs.declared.point.Point.{Point}
use Rattle.sb_fraction.specs.declared.point.HPoint.{HPoint}
use Rattle.sb_fraction.specs.Plane.{greatest_coordinate, is_coordinate, is_plan_point}
use Rattle.sb_fraction.specs.Spots.{Spot, IsSpot, spot_of}
use Rattle.sb_fraction.specs.Edges.{Edge, span_of, seen_from, turn_at, reach_at, is_on, is_in_range}
use Rattle.sb_fraction.specs.Crossings.{are_parallel, meeting_of, with_positive}
use Rattle.sb_fraction.specs.Bounds.{greatest_cross, greatest_crossing, is_crossing_size}
use Rattle.sb_fraction.specs.Meetings.{IsCommon, HaveNoCommonPoint, IsSamePoint, IsMeeting}
use Rattle.sb_fraction.specs.Steps.{turn_between, share_of, meet_once}
use Rattle.sb_fraction.proofs.SidesOfPoints.{first_in_range, second_in_range}
use Rattle.sb_fraction.proofs.Meetings.PointsByShares.{turned_spot}
use Rattle.sb_fraction.proofs.Meetings.CommonPointHasShares.{seen_by_share}
use Rattle.sb_fraction.proofs.Meetings.MeetingIsCommon.{turned_if_apart}
use Rattle.sb_fraction.proofs.Meetings.MeetingIsCommon.{unturned, once_parts, common_if_once, once_if_common}

-- ---- coordinates in range

coordinates : (p : Point) → IsTrue (is_plan_point p)
    → (unsigned_abs p.x ≤ greatest_coordinate) × (unsigned_abs p.y ≤ greatest_coordinate)
coordinates p in_range =
    let parts = and_parts (is_coordinate p.x) (is_coordinate p.y) in_range in (
      leb-true (unsigned_abs p.x) greatest_coordinate parts.0,
      leb-true (unsigned_abs p.y) greatest_coordinate parts.1,
    )

-- an edge in range begins within the range
pub x_in_range : (e : Edge) → IsTrue (is_in_range e) → unsigned_abs e.a.x ≤ greatest_coordinate
x_in_range e in_range = (coordinates e.a (first_in_range e in_range)).0

-- in both coordinates
pub y_in_range : (e : Edge) → IsTrue (is_in_range e) → unsigned_abs e.a.y ≤ greatest_coordinate
y_in_range e in_range = (coordinates e.a (first_in_range e in_range)).1

-- ---- a share lies from 0 to 1

-- where w is positive
share_is_between : (w s : ℤ) → pos 0 <ℤ w → (s *ℤ s) ≤ℤ (s *ℤ w)
    → (pos 0 ≤ℤ s) × (s ≤ℤ w)
share_is_between w s w_in low = (
  by_lt_z s (pos 0)
      (λ below.
      let square = product_of_negatives s s below below in
      let other = weak_negative_product w s (omega (arith, ints)) (omega (arith, ints)) in
      let turned = mul_comm w s in
      absurd (omega (arith, ints)))
      (λ above. above),
  by_lt_z w s
      (λ beyond.
      let more = positive_product s (s -ℤ w) (omega (arith, ints)) (omega (arith, ints)) in
      let spread = mul-sub s s w in
      absurd (omega (arith, ints)))
      (λ within. within),
)

weighted : (a b w s : ℤ) → (a *ℤ w) +ℤ (s *ℤ (b -ℤ a)) ≡ ((w -ℤ s) *ℤ a) +ℤ (s *ℤ b)
weighted a b w s =
    equal (plus (times (var a) (var w)) (times (var s) (minus (var b) (var a))))
    (plus (times (minus (var w) (var s)) (var a)) (times (var s) (var b))) (omega arith)

-- a mean of two numbers is no larger than the larger
mean_below : (a b c w s : ℤ) → pos 0 ≤ℤ s → s ≤ℤ w → a ≤ℤ c → b ≤ℤ c
    → ((a *ℤ w) +ℤ (s *ℤ (b -ℤ a))) ≤ℤ (w *ℤ c)
mean_below a b c w s low high a_in b_in =
    let first = scale_at_most (w -ℤ s) a c (omega (arith, ints)) a_in in
    let second = scale_at_most s b c low b_in in
    let spread = weighted a b w s in
    let joined : ((w -ℤ s) *ℤ c) +ℤ (s *ℤ c) ≡ w *ℤ c =
    equal (plus (times (minus (var w) (var s)) (var c)) (times (var s) (var c)))
    (times (var w) (var c)) (omega arith) in
    omega (arith, ints)

mean_turned : (a b w s : ℤ)
    → (neg_ℤ a *ℤ w) +ℤ (s *ℤ (neg_ℤ b -ℤ neg_ℤ a)) ≡ neg_ℤ ((a *ℤ w) +ℤ (s *ℤ (b -ℤ a)))
mean_turned a b w s =
    equal
    (plus (times (negated (var a)) (var w))
    (times (var s) (minus (negated (var b)) (negated (var a)))))
    (negated (plus (times (var a) (var w)) (times (var s) (minus (var b) (var a)))))
    (omega arith)

up_to_bound : (z : ℤ) (c : ℕ) → unsigned_abs z ≤ c → z ≤ℤ pos c
up_to_bound z c size = omega (arith, ints)

turned_up_to_bound : (z : ℤ) (c : ℕ) → unsigned_abs z ≤ c → neg_ℤ z ≤ℤ pos c
turned_up_to_bound z c size = omega (arith, ints)

size_within : (x m : ℤ) → x ≤ℤ m → neg_ℤ x ≤ℤ m → unsigned_abs x ≤ unsigned_abs m
size_within x m high low = omega (arith, ints)

-- where w is positive the mean is at most w times the bound in size
mean_size : (a b w s : ℤ) (c : ℕ) → unsigned_abs a ≤ c → unsigned_abs b ≤ c
    → pos 0 <ℤ w → (s *ℤ s) ≤ℤ (s *ℤ w)
    → unsigned_abs ((a *ℤ w) +ℤ (s *ℤ (b -ℤ a))) ≤ unsigned_abs w * c
mean_size a b w s c a_in b_in w_in part =
    let share = share_is_between w s w_in part in
    let high = mean_below a b (pos c) w s share.0 share.1 (up_to_bound a c a_in)
    (up_to_bound b c b_in) in
    let low = mean_below (neg_ℤ a) (neg_ℤ b) (pos c) w s share.0 share.1
    (turned_up_to_bound a c a_in) (turned_up_to_bound b c b_in) in
    let turned = mean_turned a b w s in
    let size = size_within ((a *ℤ w) +ℤ (s *ℤ (b -ℤ a))) (w *ℤ pos c) high
    (omega (arith, ints)) in
    let product = unsigned_abs-mul w (pos c) in
    omega (arith, size, product)

both_turned : (a b w s : ℤ)
    → (a *ℤ neg_ℤ w) +ℤ (neg_ℤ s *ℤ (b -ℤ a)) ≡ neg_ℤ ((a *ℤ w) +ℤ (s *ℤ (b -ℤ a)))
both_turned a b w s =
    equal
    (plus (times (var a) (negated (var w))) (times (negated (var s)) (minus (var b) (var a))))
    (negated (plus (times (var a) (var w)) (times (var s) (minus (var b) (var a)))))
    (omega arith)

turned_part : (w s : ℤ) → (s *ℤ s) ≤ℤ (s *ℤ w)
    → (neg_ℤ s *ℤ neg_ℤ s) ≤ℤ (neg_ℤ s *ℤ neg_ℤ w)
turned_part w s part = rw (neg-mul-neg s s, neg-mul-neg s w) part

same_size : (z : ℤ) → unsigned_abs (neg_ℤ z) ≡ unsigned_abs z
same_size z = omega (arith, ints)

-- whatever sign w has
any_mean_size : (a b w s : ℤ) (c : ℕ) → unsigned_abs a ≤ c → unsigned_abs b ≤ c
    → (w ≡ pos 0 → ⊥) → (s *ℤ s) ≤ℤ (s *ℤ w)
    → unsigned_abs ((a *ℤ w) +ℤ (s *ℤ (b -ℤ a))) ≤ unsigned_abs w * c
any_mean_size a b w s c a_in b_in turned part = from (sign_cases w)
  where
    from : ((pos 0 <ℤ w) ⊎ (w ≡ pos 0)) ⊎ (w <ℤ pos 0)
        → unsigned_abs ((a *ℤ w) +ℤ (s *ℤ (b -ℤ a))) ≤ unsigned_abs w * c
    from (inl (inl above)) = mean_size a b w s c a_in b_in above part
    from (inl (inr zero)) = absurd (turned zero)
    from (inr below) =
        let other = mean_size a b (neg_ℤ w) (neg_ℤ s) c a_in b_in (omega (arith, ints))
        (turned_part w s part) in
        rw (both_turned a b w s, same_size ((a *ℤ w) +ℤ (s *ℤ (b -ℤ a))), same_size w) at other

-- and so a coordinate of the meeting point is within its bound
coordinate_in_bound : (a b w s : ℤ) → unsigned_abs a ≤ greatest_coordinate
    → unsigned_abs b ≤ greatest_coordinate → (w ≡ pos 0 → ⊥)
    → unsigned_abs w ≤ greatest_cross → (s *ℤ s) ≤ℤ (s *ℤ w)
    → unsigned_abs ((a *ℤ w) +ℤ (s *ℤ (b -ℤ a))) ≤ greatest_crossing
coordinate_in_bound a b w s a_in b_in turned w_in part =
    le_trans (any_mean_size a b w s greatest_coordinate a_in b_in turned part)
    (le_trans (mul-le-mul w_in (le_refl greatest_coordinate)) (lit≤ tt))

-- ---- the point with a positive denominator

positive_size : (b : Bool) (z : ℤ) → unsigned_abs (if b then neg_ℤ z else z) ≡ unsigned_abs z
positive_size true z = same_size z
positive_size false z = refl

positive_number : (b : Bool) (z : ℤ) → int_lt z (pos 0) ≡ b
    → (if b then neg_ℤ z else z) ≡ pos (unsigned_abs z)
positive_number true z answer =
    let below = less_from z (pos 0) answer in omega (arith, ints)
positive_number false z answer =
    let above = not_less_from z (pos 0) answer in omega (arith, ints)

-- a part of it is that of the point, with its sign turned or not
part_of : (part : Spot → ℤ) → ((p : Spot) → part (turned_spot p) ≡ neg_ℤ (part p)) → (p : Spot)
    → part (with_positive p) ≡ (if int_lt p.w (pos 0) then neg_ℤ (part p) else part p)
part_of part turned p = from (int_lt p.w (pos 0))
  where
    from : (b : Bool)
        → part (if b then turned_spot p else p) ≡ (if b then neg_ℤ (part p) else part p)
    from true = turned p
    from false = refl

-- its denominator is the size of the cross product
pub meeting-w : (e f : Edge) → (meeting_of e f).w ≡ pos (unsigned_abs (turn_between e f))
meeting-w e f =
    part_of (λ p. p.w) (λ p. refl) (unturned e f)
    ∙ positive_number (int_lt (turn_between e f) (pos 0)) (turn_between e f) refl

meeting_size : (e f : Edge) (part : Spot → ℤ)
    → ((p : Spot) → part (turned_spot p) ≡ neg_ℤ (part p))
    → unsigned_abs (part (meeting_of e f)) ≡ unsigned_abs (part (unturned e f))
meeting_size e f part turned =
    ap unsigned_abs (part_of part turned (unturned e f))
    ∙ positive_size (int_lt (turn_between e f) (pos 0)) (part (unturned e f))

-- ---- there is no other common point

same_number : (w a d q s x : ℤ) → w *ℤ ((a *ℤ d) -ℤ q) ≡ neg_ℤ (d *ℤ s) *ℤ x
    → q *ℤ w ≡ ((a *ℤ w) +ℤ (s *ℤ x)) *ℤ d
same_number w a d q s x seen =
    let spread : q *ℤ w ≡ (w *ℤ (a *ℤ d)) -ℤ (w *ℤ ((a *ℤ d) -ℤ q)) =
    equal (times (var q) (var w))
    (minus (times (var w) (times (var a) (var d)))
    (times (var w) (minus (times (var a) (var d)) (var q)))) (omega arith) in
    let joined : (w *ℤ (a *ℤ d)) -ℤ (neg_ℤ (d *ℤ s) *ℤ x) ≡ ((a *ℤ w) +ℤ (s *ℤ x)) *ℤ d =
    equal
    (minus (times (var w) (times (var a) (var d)))
    (times (negated (times (var d) (var s))) (var x)))
    (times (plus (times (var a) (var w)) (times (var s) (var x))) (var d)) (omega arith) in
    omega (arith, ints)

turned_same : (q w x d : ℤ) → q *ℤ w ≡ x *ℤ d → q *ℤ neg_ℤ w ≡ neg_ℤ x *ℤ d
turned_same q w x d same = mul-neg q w ∙ ap neg_ℤ same ∙ sym (neg-mul x d)

on_line : (p : Spot) (e : Edge) → is_on p e ≡ true → turn_at e p ≡ pos 0
on_line p e on =
    (signed_Decides (turn_at e p) (pos 0)).0
    (and_parts (int_eq (turn_at e p) (pos 0)) (int_le (reach_at e p) (pos 0)) on).0

-- a common point is the point where the lines meet
pub same_if_common : (e f : Edge) (q : Spot) → IsSpot q → IsCommon e f q
    → IsSamePoint q (meeting_of e f)
same_if_common e f q q_in common = from (int_lt (turn_between e f) (pos 0))
  where
    seen : scale (turn_between e f) (seen_from q e.a)
        ≡ scale (neg_ℤ (q.w *ℤ share_of e f)) (span_of e)
    seen =
        seen_by_share q e f q_in (on_line q e common.on_first) (on_line q f common.on_second)

    at_x : q.x *ℤ turn_between e f ≡ (unturned e f).x *ℤ q.w
    at_x =
        same_number (turn_between e f) e.a.x q.w q.x (share_of e f) (span_of e).x
        (ap (λ (v : Arrow). v.x) seen)

    at_y : q.y *ℤ turn_between e f ≡ (unturned e f).y *ℤ q.w
    at_y =
        same_number (turn_between e f) e.a.y q.w q.y (share_of e f) (span_of e).y
        (ap (λ (v : Arrow). v.y) seen)

    from : (b : Bool)
        → IsSamePoint q (if b then turned_spot (unturned e f) else unturned e f)
    from true = (
      turned_same q.x (turn_between e f) (unturned e f).x q.w at_x,
      turned_same q.y (turn_between e f) (unturned e f).y q.w at_y,
    )
    from false = (at_x, at_y)

-- ---- what `meet` answers

size_of_meeting : (e f : Edge) → IsTrue (is_in_range e) → meet_once e f ≡ true
    → unsigned_abs (turn_between e f) ≤ greatest_cross
    → IsTrue (is_crossing_size (meeting_of e f))
size_of_meeting e f in_range once w_in =
    let parts = once_parts e f once in
    let w = turn_between e f in
    let s = share_of e f in
    let turned = turned_if_apart e f parts.0 in
    let first = coordinates e.a (first_in_range e in_range) in
    let second = coordinates e.b (second_in_range e in_range) in
    let part = at_most_from (s *ℤ s) (s *ℤ w) parts.1 in
    let at_x = coordinate_in_bound e.a.x e.b.x w s first.0 second.0 turned w_in part in
    let at_y = coordinate_in_bound e.a.y e.b.y w s first.1 second.1 turned w_in part in
    let p = meeting_of e f in
    let x_in : unsigned_abs p.x ≤ greatest_crossing =
    rw (meeting_size e f (λ p. p.x) (λ p. refl)) at_x in
    let y_in : unsigned_abs p.y ≤ greatest_crossing =
    rw (meeting_size e f (λ p. p.y) (λ p. refl)) at_y in
    let denominator : unsigned_abs p.w ≤ greatest_cross =
    rw (meeting_size e f (λ p. p.w) (λ p. refl)) w_in in
    and_from _ _ (le-leb _ _ x_in) (and_from _ _ (le-leb _ _ y_in) (le-leb _ _ denominator))

-- the point of edges that meet once is their one common point
pub meeting_is : (e f : Edge) → IsTrue (is_in_range e) → meet_once e f ≡ true
    → (p : HPoint) → spot_of p ≡ meeting_of e f → unsigned_abs p.w ≤ greatest_cross
    → IsMeeting e f p
meeting_is e f in_range once p same size =
    let denominator : p.w ≡ pos (unsigned_abs (turn_between e f)) =
    ap (λ (q : Spot). q.w) same ∙ meeting-w e f in
    let w_in : unsigned_abs (turn_between e f) ≤ greatest_cross = rw denominator at size in
    record {
      common = subst (λ q. IsCommon e f q) (sym same) (common_if_once e f once);
      only =
          λ q q_in common.
          subst (λ r. IsSamePoint q r) (sym same) (same_if_common e f q q_in common);
      value = same;
      denominator = denominator;
      size =
          subst (λ q. IsTrue (is_crossing_size q)) (sym same)
          (size_of_meeting e f in_range once w_in);
    }

clash : {b : Bool} → b ≡ false → b ≡ true → ⊥
clash none some = cc

-- edges that meet once are neither parallel nor without a common point
pub neither_if_once : (e f : Edge) → meet_once e f ≡ true
    → IsTrue (are_parallel e f) ⊎ HaveNoCommonPoint e f → ⊥
neither_if_once e f once (inl parallel) = clash (once_parts e f once).0 parallel
neither_if_once e f once (inr none) =
    none (meeting_of e f) (spot_in (turn_between e f) (meeting_of e f).w
    (turned_if_apart e f (once_parts e f once).0) (meeting-w e f)) (common_if_once e f once)
  where
    spot_in : (w d : ℤ) → (w ≡ pos 0 → ⊥) → d ≡ pos (unsigned_abs w) → pos 0 <ℤ d
    spot_in w d turned same =
        by_lt_z (pos 0) d (λ above. above)
        (λ low. absurd (turned (omega (arith, ints))))

-- and edges that do not meet once are one of the two
pub one_if_not_once : (e f : Edge) → meet_once e f ≡ false
    → IsTrue (are_parallel e f) ⊎ HaveNoCommonPoint e f
one_if_not_once e f none = from (are_parallel e f) refl
  where
    from : (b : Bool) → are_parallel e f ≡ b
        → IsTrue (are_parallel e f) ⊎ HaveNoCommonPoint e f
    from true parallel = inl parallel
    from false apart =
        inr (λ p p_in common. clash none (once_if_common e f apart p p_in common))

-- for the steps of `meet`
pub ruleset meetings = (to_z-of_z, x_in_range, y_in_range)
