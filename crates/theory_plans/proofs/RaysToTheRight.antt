-- The ray from the middle of an edge to its right strikes no edge that has both its ends on the
-- left of the first.

use Rattle.std.proofs.Common.{◌≡◌, refl, arith, pos, neg_ℤ, ◌<ℤ◌, ◌≤ℤ◌, ◌*ℤ◌, Bool, true, false}
use Rattle.std.proofs.Common.{if◌then◌else◌, int_lt, ◌⊎◌, inl, inr}
use Rattle.std.proofs.lemmas.Int.{ints}
use Rattle.theory_numbers.specs.Arrows.{Arrow, cross, dot}
use Rattle.theory_numbers.proofs.Shapes.{var, num, plus, minus, negated, times, equal}
use Rattle.theory_numbers.proofs.Shapes.{cross_by, dot_by, dot_eq}
use Rattle.theory_numbers.proofs.Products.{positive_product, weak_negative_product}
use Rattle.theory_numbers.proofs.Products.{weak_product_of_negatives, weak_square, same_signs}
use Rattle.theory_numbers.proofs.Products.{weak_factor, weak_negative_factor}
use Rattle.theory_numbers.proofs.Signs.{test_not_less, less_from, not_less_from}
use Rattle.theory_numbers.proofs.Ring.{mul_comm}
use Rattle.theory_numbers.proofs.Vectors.ThreeTerms.{frame_cross, frame_dot}
use Rattle.sb_fraction.specs.declared.point.Point.{Point}
use Rattle.sb_fraction.specs.Spots.{Spot, spot_at}
use Rattle.sb_fraction.specs.Edges.{Edge, seen_from, turn_at}
use Rattle.theory_plans.specs.Rays.{is_struck}
use Rattle.theory_plans.specs.Plans.{middle_of, right_of}

-- a vector that has another on its left is not 0
long_where_left : (r b : Arrow) → pos 0 <ℤ cross r b → pos 0 <ℤ dot r r
long_where_left r b left =
    let square = positive_product (cross r b) (cross r b) left left in
    let other = weak_square (dot r b) in
    let whole = frame_dot r b b in
    from (same_signs (dot r r) (dot b b) (omega (arith, ints)))
  where
    from : ((pos 0 <ℤ dot r r) × (pos 0 <ℤ dot b b)) ⊎ ((dot r r <ℤ pos 0) × (dot b b <ℤ pos 0))
        → pos 0 <ℤ dot r r
    from (inl both) = both.0
    from (inr both) =
        let x = weak_square r.x in
        let y = weak_square r.y in
        let spread = dot_eq r r in
        let below = both.0 in
        absurd (omega (arith, ints))

-- an edge that is not ahead and goes over to the left of the ray has the start on its right
turns_away : (r a b : Arrow) → dot r a ≤ℤ pos 0 → dot r b ≤ℤ pos 0 → cross r a ≤ℤ pos 0
    → pos 0 <ℤ cross r b → cross a b ≤ℤ pos 0
turns_away r a b behind_a behind_b right left =
    let whole = frame_cross r a b in
    let one = weak_product_of_negatives (cross r a) (dot r b) right behind_b in
    let other = weak_negative_product (cross r b) (dot r a) (omega (arith, ints)) behind_a in
    let turned = mul_comm (dot r a) (cross r b) in
    weak_negative_factor (dot r r) (cross a b) (long_where_left r b left) (omega (arith, ints))

-- one that comes from there has it on its left
turns_to : (r a b : Arrow) → dot r a ≤ℤ pos 0 → dot r b ≤ℤ pos 0 → pos 0 <ℤ cross r a
    → cross r b ≤ℤ pos 0 → pos 0 ≤ℤ cross a b
turns_to r a b behind_a behind_b left right =
    let whole = frame_cross r a b in
    let one = weak_product_of_negatives (dot r a) (cross r b) behind_a right in
    let other = weak_negative_product (cross r a) (dot r b) (omega (arith, ints)) behind_b in
    weak_factor (dot r r) (cross a b) (long_where_left r a left) (omega (arith, ints))

struck_by : (ra rb over under : Bool) → (ra ≡ false → rb ≡ true → over ≡ false)
    → (ra ≡ true → rb ≡ false → under ≡ false)
    → (if rb then (if ra then false else over) else (if ra then under else false)) ≡ false
struck_by true true over under up down = refl
struck_by false true over under up down = up refl refl
struck_by true false over under up down = down refl refl
struck_by false false over under up down = refl

-- a ray strikes no edge with both its ends behind its start or beside it
pub behind_is_not_struck : (r : Arrow) (p : Spot) (e : Edge)
    → dot r (seen_from p e.a) ≤ℤ pos 0 → dot r (seen_from p e.b) ≤ℤ pos 0
    → is_struck r p e ≡ false
behind_is_not_struck r p e behind_a behind_b =
    let a = seen_from p e.a in
    let b = seen_from p e.b in
    struck_by (int_lt (pos 0) (cross r a)) (int_lt (pos 0) (cross r b))
    (int_lt (pos 0) (cross a b)) (int_lt (cross a b) (pos 0))
    (λ right left. test_not_less (pos 0) (cross a b)
    (turns_away r a b behind_a behind_b (not_less_from _ _ right) (less_from _ _ left)))
    (λ left right. test_not_less (cross a b) (pos 0)
    (turns_to r a b behind_a behind_b (less_from _ _ left) (not_less_from _ _ right)))

-- what lies on the left of an edge lies behind the ray to its right
pub left_is_behind : (e : Edge) (p : Point)
    → dot (right_of e) (seen_from (middle_of e) p) ≡ neg_ℤ (pos 2 *ℤ turn_at e (spot_at p))
left_is_behind e p =
    equal
    (dot_by (right_of e) (seen_from (middle_of e) p)
    (minus (var e.b.y) (var e.a.y)) (negated (minus (var e.b.x) (var e.a.x)))
    (minus (times (var p.x) (num 2)) (plus (var e.a.x) (var e.b.x)))
    (minus (times (var p.y) (num 2)) (plus (var e.a.y) (var e.b.y))))
    (negated (times (num 2) (cross_by (seen_from (spot_at p) e.a) (seen_from (spot_at p) e.b)
    (minus (times (var e.a.x) (num 1)) (var p.x)) (minus (times (var e.a.y) (num 1)) (var p.y))
    (minus (times (var e.b.x) (num 1)) (var p.x)) (minus (times (var e.b.y) (num 1)) (var p.y)))))
    (omega arith)

-- so the ray strikes no edge with both its ends on the left or on the line
pub left_is_not_struck : (e f : Edge) → pos 0 ≤ℤ turn_at e (spot_at f.a)
    → pos 0 ≤ℤ turn_at e (spot_at f.b) → is_struck (right_of e) (middle_of e) f ≡ false
left_is_not_struck e f left_a left_b =
    let a = left_is_behind e f.a in
    let b = left_is_behind e f.b in
    behind_is_not_struck (right_of e) (middle_of e) f (omega (arith, ints)) (omega (arith, ints))

-- an end of an edge lies on its line
pub start_on_line : (e : Edge) → turn_at e (spot_at e.a) ≡ pos 0
start_on_line e =
    equal
    (cross_by (seen_from (spot_at e.a) e.a) (seen_from (spot_at e.a) e.b)
    (minus (times (var e.a.x) (num 1)) (var e.a.x)) (minus (times (var e.a.y) (num 1)) (var e.a.y))
    (minus (times (var e.b.x) (num 1)) (var e.a.x)) (minus (times (var e.b.y) (num 1)) (var e.a.y)))
    (num 0) (omega arith)

-- the other one too
pub end_on_line : (e : Edge) → turn_at e (spot_at e.b) ≡ pos 0
end_on_line e =
    equal
    (cross_by (seen_from (spot_at e.b) e.a) (seen_from (spot_at e.b) e.b)
    (minus (times (var e.a.x) (num 1)) (var e.b.x)) (minus (times (var e.a.y) (num 1)) (var e.b.y))
    (minus (times (var e.b.x) (num 1)) (var e.b.x)) (minus (times (var e.b.y) (num 1)) (var e.b.y)))
    (num 0) (omega arith)
