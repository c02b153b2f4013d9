-- Whether a point lies on an edge, beside it or inside a plan does not depend on how the point is
-- written.

use Rattle.std.proofs.Common.{◌≡◌, sym, ap, ap₂, ◌∙◌, arith, ℤ, pos, ◌*ℤ◌, ◌-ℤ◌}
use Rattle.std.proofs.Common.{Bool, false, not, ◌&&◌, int_lt, int_le, if◌then◌else◌, List}
use Rattle.std.specs.List.{list_any}
use Rattle.std.specs.Ordering.{int_eq}
use Rattle.std.proofs.Math.Path.{fun_ext}
use Rattle.theory_lists.specs.Parity.{is_odd_number}
use Rattle.theory_numbers.specs.Arrows.{Arrow, cross, dot, scale}
use Rattle.theory_numbers.proofs.Vectors.Arrows.{same_arrow, cross-scale, scale-cross, dot-scale, scale-dot}
use Rattle.theory_numbers.proofs.Multiples.{sign_of_multiple, other_sign_of_multiple}
use Rattle.theory_numbers.proofs.Multiples.{order_of_multiples, zero_of_multiple}
use Rattle.theory_numbers.proofs.Multiples.{weak_sign_of_multiple}
use Rattle.theory_numbers.proofs.Ring.{mul_comm}
use Rattle.theory_numbers.proofs.Shapes.{var, minus, times, equal}
use Rattle.sb_fraction.specs.declared.point.Point.{Point}
use Rattle.sb_fraction.specs.Spots.{Spot, spot, IsSpot}
use Rattle.sb_fraction.specs.Edges.{Edge, seen_from, turn_at, reach_at, is_on, is_within}
use Rattle.theory_plans.specs.LoopEdges.{edges_of}
use Rattle.theory_plans.specs.Inside.{is_higher, is_crossed, is_in_plan}
use Rattle.theory_plans.specs.Rays.{is_left_of, is_struck}
use Rattle.theory_plans.specs.Alike.{scaled, AreAlike, SeesNoFactor}

-- what sees no factor says the same of one point written in two ways
pub same_of_alike : {X : Type 0} (f : Spot → X) → SeesNoFactor f → (p q : Spot)
    → IsSpot p → IsSpot q → AreAlike p q → f p ≡ f q
same_of_alike f sees p q p_is q_is alike =
    sym (sees q.w p q_is) ∙ ap f same ∙ sees p.w q p_is
  where
    same_spot : {x y z w x' y' z' w' : ℤ} → x ≡ x' → y ≡ y' → z ≡ z' → w ≡ w'
        → spot x y z w ≡ spot x' y' z' w'
    same_spot {x} {y} {z} {w} {x'} {y'} {z'} {w'} ex ey ez ew =
        ap (λ t. spot t y z w) ex ∙ ap (λ t. spot x' t z w) ey
        ∙ ap (λ t. spot x' y' t w) ez ∙ ap (λ t. spot x' y' z' t) ew

    same : scaled q.w p ≡ scaled p.w q
    same = same_spot alike.x alike.y alike.z (mul_comm q.w p.w)

-- ---- what is seen from a point

moved_out : (k a x w : ℤ) → (a *ℤ (k *ℤ w)) -ℤ (k *ℤ x) ≡ k *ℤ ((a *ℤ w) -ℤ x)
moved_out k a x w =
    equal (minus (times (var a) (times (var k) (var w))) (times (var k) (var x)))
    (times (var k) (minus (times (var a) (var w)) (var x)))
    (omega arith)

-- a plan point is seen k times as far
pub seen-scaled : (k : ℤ) (p : Spot) (a : Point)
    → seen_from (scaled k p) a ≡ scale k (seen_from p a)
seen-scaled k p a =
    same_arrow (seen_from (scaled k p) a) (scale k (seen_from p a))
    (moved_out k a.x p.x p.w) (moved_out k a.y p.y p.w)

cross-scales : (k : ℤ) (a b : Arrow) → cross (scale k a) (scale k b) ≡ k *ℤ (k *ℤ cross a b)
cross-scales k a b = scale-cross k a (scale k b) ∙ ap (λ n. k *ℤ n) (cross-scale k a b)

dot-scales : (k : ℤ) (a b : Arrow) → dot (scale k a) (scale k b) ≡ k *ℤ (k *ℤ dot a b)
dot-scales k a b = scale-dot k a (scale k b) ∙ ap (λ n. k *ℤ n) (dot-scale k a b)

-- the turn of an edge, and its reach, grow by the square of the factor
pub turn-scaled : (k : ℤ) (p : Spot) (e : Edge)
    → turn_at e (scaled k p) ≡ k *ℤ (k *ℤ turn_at e p)
turn-scaled k p e =
    ap₂ cross (seen-scaled k p e.a) (seen-scaled k p e.b)
    ∙ cross-scales k (seen_from p e.a) (seen_from p e.b)

-- the reach
pub reach-scaled : (k : ℤ) (p : Spot) (e : Edge)
    → reach_at e (scaled k p) ≡ k *ℤ (k *ℤ reach_at e p)
reach-scaled k p e =
    ap₂ dot (seen-scaled k p e.a) (seen-scaled k p e.b)
    ∙ dot-scales k (seen_from p e.a) (seen_from p e.b)

-- ---- tests of a point and an edge

-- whether the point lies left of the edge
pub left_sees_no_factor : (e : Edge) → SeesNoFactor (λ p. int_lt (pos 0) (turn_at e p))
left_sees_no_factor e k p above =
    ap (int_lt (pos 0)) (turn-scaled k p e)
    ∙ sign_of_multiple k (k *ℤ turn_at e p) above ∙ sign_of_multiple k (turn_at e p) above

-- whether it lies right of it
pub right_sees_no_factor : (e : Edge) → SeesNoFactor (λ p. int_lt (turn_at e p) (pos 0))
right_sees_no_factor e k p above =
    ap (λ n. int_lt n (pos 0)) (turn-scaled k p e)
    ∙ other_sign_of_multiple k (k *ℤ turn_at e p) above
    ∙ other_sign_of_multiple k (turn_at e p) above

-- whether it lies on its line
pub line_sees_no_factor : (e : Edge) → SeesNoFactor (λ p. int_eq (turn_at e p) (pos 0))
line_sees_no_factor e k p above =
    ap (λ n. int_eq n (pos 0)) (turn-scaled k p e)
    ∙ zero_of_multiple k (k *ℤ turn_at e p) above ∙ zero_of_multiple k (turn_at e p) above

-- whether it lies on the edge
pub on_sees_no_factor : (e : Edge) → SeesNoFactor (λ p. is_on p e)
on_sees_no_factor e k p above =
    ap₂ (λ s t. s && t) (line_sees_no_factor e k p above)
    (ap (λ n. int_le n (pos 0)) (reach-scaled k p e)
    ∙ weak_sign_of_multiple k (k *ℤ reach_at e p) above
    ∙ weak_sign_of_multiple k (reach_at e p) above)

-- whether it lies on it strictly between its ends
pub within_sees_no_factor : (e : Edge) → SeesNoFactor (λ p. is_within p e)
within_sees_no_factor e k p above =
    ap₂ (λ s t. s && t) (line_sees_no_factor e k p above)
    (ap (λ n. int_lt n (pos 0)) (reach-scaled k p e)
    ∙ other_sign_of_multiple k (k *ℤ reach_at e p) above
    ∙ other_sign_of_multiple k (reach_at e p) above)

higher_sees_no_factor : (a : Point) → SeesNoFactor (λ p. is_higher p a)
higher_sees_no_factor a k p above =
    ap (int_lt (k *ℤ p.y)) (factor_out a.y k p.w)
    ∙ order_of_multiples k p.y (a.y *ℤ p.w) above
  where
    factor_out : (c m n : ℤ) → c *ℤ (m *ℤ n) ≡ m *ℤ (c *ℤ n)
    factor_out c m n =
        equal (times (var c) (times (var m) (var n))) (times (var m) (times (var c) (var n)))
        (omega arith)

same_hit : {a b over under a' b' over' under' : Bool} → a ≡ a' → b ≡ b' → over ≡ over'
    → under ≡ under'
    → (if b then (if a then false else over) else (if a then under else false))
    ≡ (if b' then (if a' then false else over') else (if a' then under' else false))
same_hit {a} {b} {over} {under} {a'} {b'} {over'} {under'} ea eb eo eu =
    ap (λ t. if b then (if t then false else over) else (if t then under else false)) ea
    ∙ ap (λ t. if t then (if a' then false else over) else (if a' then under else false)) eb
    ∙ ap (λ t. if b' then (if a' then false else t) else (if a' then under else false)) eo
    ∙ ap (λ t. if b' then (if a' then false else over') else (if a' then t else false)) eu

-- whether the edge crosses the ray to the right
pub crossed_sees_no_factor : (e : Edge) → SeesNoFactor (λ p. is_crossed p e)
crossed_sees_no_factor e k p above =
    same_hit (higher_sees_no_factor e.a k p above) (higher_sees_no_factor e.b k p above)
    (left_sees_no_factor e k p above) (right_sees_no_factor e k p above)

-- whether a plan point lies left of a ray
pub left_of_ray_sees_no_factor : (r : Arrow) (a : Point) → SeesNoFactor (λ p. is_left_of r p a)
left_of_ray_sees_no_factor r a k p above =
    ap (λ s. int_lt (pos 0) (cross r s)) (seen-scaled k p a)
    ∙ ap (int_lt (pos 0)) (cross-scale k r (seen_from p a))
    ∙ sign_of_multiple k (cross r (seen_from p a)) above

-- whether a ray strikes the edge
pub struck_sees_no_factor : (r : Arrow) (e : Edge) → SeesNoFactor (λ p. is_struck r p e)
struck_sees_no_factor r e k p above =
    same_hit (left_of_ray_sees_no_factor r e.a k p above)
    (left_of_ray_sees_no_factor r e.b k p above)
    (left_sees_no_factor e k p above) (right_sees_no_factor e k p above)

-- ---- plans

-- whether the point lies on an edge of the list
pub on_any_sees_no_factor : (es : List Edge) → SeesNoFactor (λ p. list_any (is_on p) es)
on_any_sees_no_factor es k p above =
    ap (λ (f : Edge → Bool). list_any f es) (fun_ext (λ e. on_sees_no_factor e k p above))

-- whether it lies inside a plan
pub inside_sees_no_factor : (loops : List (List Point)) → SeesNoFactor (is_in_plan loops)
inside_sees_no_factor loops k p above =
    ap₂ (λ s t. not s && t) (on_any_sees_no_factor (edges_of loops) k p above)
    (ap (λ (f : Edge → Bool). is_odd_number f (edges_of loops))
    (fun_ext (λ e. crossed_sees_no_factor e k p above)))

-- a point that lies inside a plan does so however it is written
pub alike_inside : (loops : List (List Point)) (p q : Spot) → IsSpot p → IsSpot q → AreAlike p q
    → is_in_plan loops p ≡ is_in_plan loops q
alike_inside loops = same_of_alike (is_in_plan loops) (inside_sees_no_factor loops)
