-- A point lies inside a plan where it is on no edge and an odd number of edges lie below it, along
-- any direction.

use Rattle.std.proofs.Common.{◌≡◌, ◌⊎◌, inl, inr, refl, sym, ap, ap₂, ◌∙◌, arith, ℤ, pos, neg_ℤ}
use Rattle.std.proofs.Common.{◌+ℤ◌, ◌<ℤ◌}
use Rattle.std.proofs.Common.{◌-ℤ◌, ◌*ℤ◌, Bool, true, false, not, ◌&&◌, int_lt, List}
use Rattle.std.specs.List.{list_any}
use Rattle.std.specs.Ordering.{int_eq}
use Rattle.std.proofs.lemmas.Bool.{and_parts, or_cases}
use Rattle.std.proofs.lemmas.Bool.Decides.{Decides-int_eq}
use Rattle.std.proofs.lemmas.Int.{ints}
use Rattle.theory_lists.specs.Parity.{differ, is_odd_number}
use Rattle.theory_lists.proofs.Parity.{is_odd_number-same}
use Rattle.theory_numbers.specs.Tests.{is_positive}
use Rattle.theory_numbers.specs.Arrows.{Arrow, arrow, cross, dot, opposite}
use Rattle.theory_numbers.proofs.Vectors.Arrows.{opposite-cross}
use Rattle.theory_numbers.proofs.Shapes.{var, num, plus, minus, negated, times, equal, cross_by}
use Rattle.theory_numbers.proofs.Shapes.{dot_by, dot_eq}
use Rattle.theory_numbers.proofs.Signs.{less_from, not_less_from, test_less, test_not_less}
use Rattle.theory_numbers.proofs.Signs.{same_less}
use Rattle.theory_numbers.proofs.Products.{positive_product, positive_factor, negative_product}
use Rattle.theory_numbers.proofs.Products.{negative_factor, weak_square}
use Rattle.theory_numbers.specs.Rationals.{rational}
use Rattle.theory_numbers.proofs.Multiples.{order_of_multiples}
use Rattle.theory_numbers.proofs.Ring.{mul_assoc, neg-mul}
use Rattle.theory_numbers.proofs.Vectors.ThreeTerms.{frame_cross}
use Rattle.theory_numbers.proofs.SignTables.{hit_of}
use Rattle.theory_plane.specs.Sides.{line}
use Rattle.theory_plane.specs.Points.{is_above_side}
use Rattle.sb_fraction.specs.declared.point.Point.{Point}
use Rattle.sb_fraction.specs.Plane.{is_forward}
use Rattle.sb_fraction.specs.Spots.{Spot, IsSpot}
use Rattle.sb_fraction.specs.Edges.{Edge, span_of, seen_from, turn_at, is_on}
use Rattle.sb_fraction.specs.Crossings.{abscissa_at}
use Rattle.sb_fraction.specs.Lines.{place, flat, in_frame, span_along, line_over, lies_after}
use Rattle.theory_plans.specs.LoopEdges.{edges_of}
use Rattle.theory_plans.specs.Inside.{is_higher, is_crossed, is_in_plan}
use Rattle.theory_plans.specs.Rays.{is_left_of, is_struck}
use Rattle.theory_parity.specs.Below.{IsWay, down_from, abscissa_in, is_below_at, is_in_along}
use Rattle.theory_parity.proofs.Rays.AnyRay.{any_ray}

-- ---- the ray to the right

abbrev rightward : Arrow
rightward = arrow (pos 1) (pos 0)

higher_is_left : (p : Spot) (a : Point) → is_higher p a ≡ is_left_of rightward p a
higher_is_left p a =
    same_less p.y (a.y *ℤ p.w) (pos 0) (cross rightward (seen_from p a))
    (λ less. omega (arith, ints, across)) (λ less. omega (arith, ints, across))
  where
    across : cross rightward (seen_from p a) ≡ (a.y *ℤ p.w) -ℤ p.y
    across =
        equal
        (cross_by rightward (seen_from p a) (num 1) (num 0)
        (minus (times (var a.x) (var p.w)) (var p.x)) (minus (times (var a.y) (var p.w)) (var p.y)))
        (minus (times (var a.y) (var p.w)) (var p.y))
        (omega arith)

-- it crosses an edge where it strikes it
pub crossed_is_struck : (p : Spot) (e : Edge) → is_crossed p e ≡ is_struck rightward p e
crossed_is_struck p e =
    ap₂ (λ a b. hit_of a b (int_lt (pos 0) (turn_at e p)) (int_lt (turn_at e p) (pos 0)))
    (higher_is_left p e.a) (higher_is_left p e.b)

where_off : (on a b : Bool) → (on ≡ false → a ≡ b) → (not on && a) ≡ (not on && b)
where_off true a b same = refl
where_off false a b same = same refl

-- inside, by a ray of any direction
pub inside_by_ray : (r : Arrow) (p : Spot) → IsWay r → (loops : List (List Point))
    → is_in_plan loops p
    ≡ (not (list_any (is_on p) (edges_of loops)) && is_odd_number (is_struck r p) (edges_of loops))
inside_by_ray r p r_is loops =
    where_off (list_any (is_on p) (edges_of loops)) (is_odd_number (is_crossed p) (edges_of loops))
    (is_odd_number (is_struck r p) (edges_of loops))
    (λ off.
    is_odd_number-same (is_crossed p) (is_struck rightward p) (crossed_is_struck p) (edges_of loops)
    ∙ any_ray rightward r p right_is r_is loops off)
  where
    right_is : IsWay rightward
    right_is =
        let one : dot rightward rightward ≡ pos 1 =
        equal (dot_by rightward rightward (num 1) (num 0) (num 1) (num 0)) (num 1) (omega arith) in
        omega (arith, ints)

-- ---- the way down in the frame of d

-- how far a plan point lies beyond p is how far it lies left of the way down
pub beyond_by_turn : (d : Arrow) (p : Spot) (a : Point)
    → cross (abscissa_in d p) (rational (abscissa_at a (flat d)) (pos 1))
    ≡ cross (down_from d) (seen_from p a)
beyond_by_turn d p a =
    equal
    (cross_by (abscissa_in d p) (arrow (pos 1) ((a.x *ℤ d.x) +ℤ (a.y *ℤ d.y)))
    (var p.w) (dot_by d (arrow p.x p.y) (var d.x) (var d.y) (var p.x) (var p.y))
    (num 1) (plus (times (var a.x) (var d.x)) (times (var a.y) (var d.y))))
    (cross_by (down_from d) (seen_from p a) (var d.y) (negated (var d.x))
    (minus (times (var a.x) (var p.w)) (var p.x)) (minus (times (var a.y) (var p.w)) (var p.y)))
    (omega arith)

-- so what has a greater abscissa lies left of it
pub beyond_is_left : (d : Arrow) (p : Spot) (a : Point)
    → lies_after d (abscissa_in d p) a ≡ is_left_of (down_from d) p a
beyond_is_left d p a = ap is_positive (beyond_by_turn d p a)

-- the turn of an edge, by its vector
pub turn_by_span : (p : Spot) (e : Edge)
    → turn_at e p
    ≡ p.w *ℤ (cross (span_of e) (arrow p.x p.y) -ℤ (cross (span_of e) (place e.a) *ℤ p.w))
turn_by_span p e =
    equal
    (cross_by (seen_from p e.a) (seen_from p e.b)
    (minus (times (var e.a.x) (var p.w)) (var p.x)) (minus (times (var e.a.y) (var p.w)) (var p.y))
    (minus (times (var e.b.x) (var p.w)) (var p.x)) (minus (times (var e.b.y) (var p.w)) (var p.y)))
    (times (var p.w)
    (minus
    (cross_by (span_of e) (arrow p.x p.y)
    (minus (var e.b.x) (var e.a.x)) (minus (var e.b.y) (var e.a.y)) (var p.x) (var p.y))
    (times
    (cross_by (span_of e) (place e.a)
    (minus (var e.b.x) (var e.a.x)) (minus (var e.b.y) (var e.a.y)) (var e.a.x) (var e.a.y))
    (var p.w))))
    (omega arith)

-- above the line of the vector s through a, in the frame of d
above_by_vector : (d s : Arrow) (a : Point) (p : Spot) → IsWay d
    → is_above_side (line (dot d s) (cross d s) (dot d d *ℤ cross s (place a))) (in_frame d p)
    ≡ int_lt (cross s (place a) *ℤ p.w) (cross s (arrow p.x p.y))
above_by_vector d s a p d_is =
    let at = arrow p.x p.y in
    ap₂ int_lt (mul_assoc (dot d d) (cross s (place a)) p.w) (sym (frame_cross d s at))
    ∙ order_of_multiples (dot d d) (cross s (place a) *ℤ p.w) (cross s at) d_is

-- the point lies left of an edge exactly where it lies above the line of its vector
left_by_span : (p : Spot) (e : Edge) → IsSpot p
    → int_lt (cross (span_of e) (place e.a) *ℤ p.w) (cross (span_of e) (arrow p.x p.y))
    ≡ int_lt (pos 0) (turn_at e p)
left_by_span p e p_is =
    let low = cross (span_of e) (place e.a) *ℤ p.w in
    let high = cross (span_of e) (arrow p.x p.y) in
    let whole = turn_by_span p e in
    same_less low high (pos 0) (turn_at e p)
    (λ less.
    let above = positive_product p.w (high -ℤ low) p_is (omega (arith, ints)) in
    omega (arith, ints))
    (λ above.
    let less = positive_factor p.w (high -ℤ low) p_is (omega (arith, ints)) in
    omega (arith, ints))

-- and right of it where it lies above the line of the opposite vector
right_by_span : (p : Spot) (e : Edge) → IsSpot p
    → int_lt (cross (opposite (span_of e)) (place e.a) *ℤ p.w)
    (cross (opposite (span_of e)) (arrow p.x p.y))
    ≡ int_lt (turn_at e p) (pos 0)
right_by_span p e p_is =
    let span = span_of e in
    let low = cross span (place e.a) *ℤ p.w in
    let high = cross span (arrow p.x p.y) in
    let whole = turn_by_span p e in
    let turned_low : cross (opposite span) (place e.a) *ℤ p.w ≡ neg_ℤ low =
    ap (λ n. n *ℤ p.w) (opposite-cross span (place e.a)) ∙ neg-mul (cross span (place e.a)) p.w in
    let turned_high = opposite-cross span (arrow p.x p.y) in
    same_less (cross (opposite span) (place e.a) *ℤ p.w) (cross (opposite span) (arrow p.x p.y))
    (turn_at e p) (pos 0)
    (λ less.
    let below = negative_product p.w (high -ℤ low) p_is (omega (arith, ints)) in
    omega (arith, ints))
    (λ below.
    let less = negative_factor p.w (high -ℤ low) p_is (omega (arith, ints)) in
    omega (arith, ints))

-- seen along the way down, the end that is beyond is the later one along d
along_by_ends : (d : Arrow) (p : Spot) (e : Edge)
    → p.w *ℤ dot d (span_of e)
    ≡ cross (down_from d) (seen_from p e.b) -ℤ cross (down_from d) (seen_from p e.a)
along_by_ends d p e =
    equal
    (times (var p.w)
    (dot_by d (span_of e) (var d.x) (var d.y)
    (minus (var e.b.x) (var e.a.x)) (minus (var e.b.y) (var e.a.y))))
    (minus
    (cross_by (down_from d) (seen_from p e.b) (var d.y) (negated (var d.x))
    (minus (times (var e.b.x) (var p.w)) (var p.x)) (minus (times (var e.b.y) (var p.w)) (var p.y)))
    (cross_by (down_from d) (seen_from p e.a) (var d.y) (negated (var d.x))
    (minus (times (var e.a.x) (var p.w)) (var p.x))
    (minus (times (var e.a.y) (var p.w)) (var p.y))))
    (omega arith)

below_table : (a b over under above : Bool) → (a ≡ false → b ≡ true → above ≡ over)
    → (a ≡ true → b ≡ false → above ≡ under) → (differ a b && above) ≡ hit_of a b over under
below_table true true over under above up down = refl
below_table true false over under above up down = down refl refl
below_table false true over under above up down = up refl refl
below_table false false over under above up down = refl

-- an edge lies below a point exactly where the way down strikes it
pub below_is_struck : (d : Arrow) (p : Spot) (e : Edge) → IsWay d → IsSpot p
    → is_below_at d p e ≡ is_struck (down_from d) p e
unfolding span_along
below_is_struck d p e d_is p_is =
    ap₂ (λ s t. differ s t && is_above_side (line_over d e) (in_frame d p))
    (beyond_is_left d p e.a) (beyond_is_left d p e.b)
    ∙ below_table (is_left_of (down_from d) p e.a) (is_left_of (down_from d) p e.b)
    (int_lt (pos 0) (turn_at e p)) (int_lt (turn_at e p) (pos 0))
    (is_above_side (line_over d e) (in_frame d p)) over under
  where
    at_a : ℤ
    at_a = cross (down_from d) (seen_from p e.a)

    at_b : ℤ
    at_b = cross (down_from d) (seen_from p e.b)

    over : is_left_of (down_from d) p e.a ≡ false → is_left_of (down_from d) p e.b ≡ true
        → is_above_side (line_over d e) (in_frame d p) ≡ int_lt (pos 0) (turn_at e p)
    over right left =
        let low = not_less_from (pos 0) (cross (down_from d) (seen_from p e.a)) right in
        let high = less_from (pos 0) (cross (down_from d) (seen_from p e.b)) left in
        let parts = along_by_ends d p e in
        let along = positive_factor p.w (dot d (span_of e)) p_is (omega (arith, ints)) in
        rw (test_less (pos 0) (dot d (span_of e)) along)
        (above_by_vector d (span_of e) e.a p d_is ∙ left_by_span p e p_is)

    under : is_left_of (down_from d) p e.a ≡ true → is_left_of (down_from d) p e.b ≡ false
        → is_above_side (line_over d e) (in_frame d p) ≡ int_lt (turn_at e p) (pos 0)
    under left right =
        let high = less_from (pos 0) (cross (down_from d) (seen_from p e.a)) left in
        let low = not_less_from (pos 0) (cross (down_from d) (seen_from p e.b)) right in
        let parts = along_by_ends d p e in
        let against = negative_factor p.w (dot d (span_of e)) p_is (omega (arith, ints)) in
        rw (test_not_less (pos 0) (dot d (span_of e)) (omega (arith, ints)))
        (above_by_vector d (opposite (span_of e)) e.a p d_is ∙ right_by_span p e p_is)

-- the way down of a direction is a way
pub down_is_way : (d : Arrow) → IsWay d → IsWay (down_from d)
down_is_way d d_is = omega (arith, ints, square, d_is)
  where
    square : dot (down_from d) (down_from d) ≡ dot d d
    square =
        equal (dot_by (down_from d) (down_from d) (var d.y) (negated (var d.x)) (var d.y)
        (negated (var d.x))) (dot_by d d (var d.x) (var d.y) (var d.x) (var d.y)) (omega arith)

-- a point lies inside a plan exactly where it is on no edge and an odd number of edges lie below it
pub inside_by_below : (d : Arrow) (p : Spot) → IsWay d → IsSpot p → (loops : List (List Point))
    → is_in_plan loops p ≡ is_in_along d loops p
inside_by_below d p d_is p_is loops =
    inside_by_ray (down_from d) p (down_is_way d d_is) loops
    ∙ ap (λ t. not (list_any (is_on p) (edges_of loops)) && t)
    (is_odd_number-same (is_struck (down_from d) p) (is_below_at d p)
    (λ e. sym (below_is_struck d p e d_is p_is)) (edges_of loops))

-- ---- directions to greater x, and (0, 1)

-- each is a vector that is not 0
pub forward_is_way : (d : Arrow) → is_forward d.x d.y ≡ true → IsWay d
forward_is_way d ahead =
    by (or_cases (int_lt (pos 0) d.x) (int_eq d.x (pos 0) && int_eq d.y (pos 1)) ahead)
  where
    whole : dot d d ≡ (d.x *ℤ d.x) +ℤ (d.y *ℤ d.y)
    whole = dot_eq d d

    by : (int_lt (pos 0) d.x ≡ true) ⊎ ((int_eq d.x (pos 0) && int_eq d.y (pos 1)) ≡ true)
        → IsWay d
    by (inl right) =
        let above = less_from (pos 0) d.x right in
        let square = positive_product d.x d.x above above in
        let other = weak_square d.y in
        omega (arith, ints, whole)
    by (inr up) =
        let parts = and_parts (int_eq d.x (pos 0)) (int_eq d.y (pos 1)) up in
        let other = weak_square d.x in
        let above : pos 0 <ℤ d.y = omega (arith, ints, (Decides-int_eq d.y (pos 1)).0 parts.1) in
        let square = positive_product d.y d.y above above in
        omega (arith, ints, whole)

-- along (0, 1) an edge lies below a point exactly where it crosses the ray to the right: there the
-- answer is the definition itself
pub below_is_crossed : (p : Spot) (e : Edge) → IsSpot p
    → is_below_at (arrow (pos 0) (pos 1)) p e ≡ is_crossed p e
below_is_crossed p e p_is =
    below_is_struck (arrow (pos 0) (pos 1)) p e (forward_is_way (arrow (pos 0) (pos 1)) refl) p_is
    ∙ sym (crossed_is_struck p e)
