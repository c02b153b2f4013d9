-- A quadrilateral that turns left at each corner has its edges apart and the solid on their left.

use Rattle.std.proofs.Common.{◌≡◌, refl, arith, ℤ, pos, ◌<ℤ◌, ◌≤ℤ◌, ◌*ℤ◌, Bool, true, false, not}
use Rattle.std.proofs.Common.{◌&&◌, ◌||◌, [], ◌∷◌, ap₂}
use Rattle.std.specs.Ordering.{int_eq}
use Rattle.std.specs.Prelude.{int_le}
use Rattle.std.proofs.lemmas.Int.{ints}
use Rattle.std.proofs.lemmas.Bool.{and_from, and_left, and_parts, false_from_ne_true}
use Rattle.std.proofs.lemmas.Bool.Decides.{Decides-int_eq}
use Rattle.theory_lists.specs.Parity.{differ}
use Rattle.theory_numbers.proofs.Products.{positive_product}
use Rattle.theory_numbers.proofs.Signs.{test_not_less, test_not_equal}
use Rattle.sb_fraction.specs.declared.point.Point.{Point}
use Rattle.sb_fraction.specs.Spots.{Spot, spot, spot_at}
use Rattle.sb_fraction.specs.Edges.{Edge, edge, turn_at, reach_at, is_on}
use Rattle.theory_plans.specs.Rays.{is_struck}
use Rattle.theory_plans.specs.Plans.{is_same_point, do_touch, is_parted, are_apart}
use Rattle.theory_plans.specs.Plans.{is_consecutive, is_solid_left_of, keep_left, middle_of, right_of}
use Rattle.theory_plans.proofs.RaysToTheRight.{left_is_not_struck, start_on_line, end_on_line}

-- the corner p lies left of the way from a to b
abbrev pub IsLeft : Point → Point → Point → Type 0
IsLeft a b p = pos 0 <ℤ turn_at (edge a b) (spot_at p)

-- each two corners of a quadrilateral lie left of the edge between the two others
pub record IsConvex (a b c d : Point) : Type 0 where
  pub c_of_ab : IsLeft a b c
  pub d_of_ab : IsLeft a b d
  pub d_of_bc : IsLeft b c d
  pub a_of_bc : IsLeft b c a
  pub a_of_cd : IsLeft c d a
  pub b_of_cd : IsLeft c d b
  pub b_of_da : IsLeft d a b
  pub c_of_da : IsLeft d a c

-- ---- points that differ

same_self : (p : Point) → is_same_point p p ≡ true
same_self p =
    and_from (int_eq p.x p.x) (int_eq p.y p.y) ((Decides-int_eq p.x p.x).1 refl)
    ((Decides-int_eq p.y p.y).1 refl)

-- a point on the line of an edge is none beside it
apart_by : (e : Edge) (p q : Point) → turn_at e (spot_at p) ≡ pos 0
    → pos 0 <ℤ turn_at e (spot_at q) → is_same_point p q ≡ false
apart_by e p q on beside = false_from_ne_true (is_same_point p q) (λ same.
    let parts = and_parts (int_eq p.x q.x) (int_eq p.y q.y) same in
    let moved : turn_at e (spot_at p) ≡ turn_at e (spot_at q) =
    ap₂ (λ x y. turn_at e (spot x y (pos 0) (pos 1)))
    ((Decides-int_eq p.x q.x).0 parts.0) ((Decides-int_eq p.y q.y).0 parts.1) in
    omega (arith, ints))

-- nor is a point beside it one on the line
apart_from : (e : Edge) (p q : Point) → turn_at e (spot_at q) ≡ pos 0
    → pos 0 <ℤ turn_at e (spot_at p) → is_same_point p q ≡ false
apart_from e p q on beside = false_from_ne_true (is_same_point p q) (λ same.
    let parts = and_parts (int_eq p.x q.x) (int_eq p.y q.y) same in
    let moved : turn_at e (spot_at p) ≡ turn_at e (spot_at q) =
    ap₂ (λ x y. turn_at e (spot x y (pos 0) (pos 1)))
    ((Decides-int_eq p.x q.x).0 parts.0) ((Decides-int_eq p.y q.y).0 parts.1) in
    omega (arith, ints))

-- ---- edges that do not touch

beside_is_not_on : (e : Edge) (p : Spot) → pos 0 <ℤ turn_at e p → is_on p e ≡ false
beside_is_not_on e p beside =
    and_left (int_eq (turn_at e p) (pos 0)) (int_le (reach_at e p) (pos 0))
    (test_not_equal (turn_at e p) (pos 0) (λ zero. omega (arith, ints)))

no_touch : (p q r s t u : Bool) → p ≡ false → q ≡ false → r ≡ false → s ≡ false → t ≡ false
    → (p || (q || (r || (s || (t && u))))) ≡ false
no_touch p q r s t u ep eq er es et = rw (ep, eq, er, es, et) refl

-- each of the two has the ends of the other on its left
pub beside_do_not_touch : (e f : Edge)
    → pos 0 <ℤ turn_at f (spot_at e.a) → pos 0 <ℤ turn_at f (spot_at e.b)
    → pos 0 <ℤ turn_at e (spot_at f.a) → pos 0 <ℤ turn_at e (spot_at f.b)
    → do_touch e f ≡ false
beside_do_not_touch e f ea eb fa fb =
    let product = positive_product (turn_at e (spot_at f.a)) (turn_at e (spot_at f.b)) fa fb in
    no_touch (is_on (spot_at e.a) f) (is_on (spot_at e.b) f) (is_on (spot_at f.a) e)
    (is_on (spot_at f.b) e) (is_parted e f) (is_parted f e)
    (beside_is_not_on f (spot_at e.a) ea) (beside_is_not_on f (spot_at e.b) eb)
    (beside_is_not_on e (spot_at f.a) fa) (beside_is_not_on e (spot_at f.b) fb)
    (test_not_less (turn_at e (spot_at f.a) *ℤ turn_at e (spot_at f.b)) (pos 0)
    (omega (arith, ints)))

-- ---- the quadrilateral

six_true : (p q r s t u : Bool)
    → p ≡ true → q ≡ true → r ≡ true → s ≡ true → t ≡ true → u ≡ true
    → ((p && (q && (r && true))) && ((s && (t && true)) && ((u && true) && true))) ≡ true
six_true p q r s t u ep eq er es et eu = rw (ep, eq, er, es, et, eu) refl

four_true : (p q r s : Bool) → p ≡ true → q ≡ true → r ≡ true → s ≡ true
    → (p && (q && (r && (s && true)))) ≡ true
four_true p q r s ep eq er es = rw (ep, eq, er, es) refl

none_of_four : (p q r s : Bool) → p ≡ false → q ≡ false → r ≡ false → s ≡ false
    → not (differ p (differ q (differ r (differ s false)))) ≡ true
none_of_four p q r s ep eq er es = rw (ep, eq, er, es) refl

first_holds : (p q r : Bool) → p ≡ true → ((p || q) || r) ≡ true
first_holds p q r holds = rw holds refl

second_holds : (p q r : Bool) → q ≡ true → ((p || q) || r) ≡ true
second_holds true q r holds = refl
second_holds false q r holds = rw holds refl

no_touch_holds : (p q : Bool) → q ≡ false → (p || not q) ≡ true
no_touch_holds true q none = refl
no_touch_holds false q none = rw none refl

turned_false : (p : Bool) → p ≡ false → not p ≡ true
turned_false p none = rw none refl

-- its edges are apart
pub convex_is_apart : (a b c d : Point) → IsConvex a b c d
    → are_apart ((a ∷ b ∷ c ∷ d ∷ []) ∷ []) ≡ true
convex_is_apart a b c d convex =
    and_from _ _
    (six_true _ _ _ _ _ _
    (turned_false (is_same_point a b)
    (apart_from (edge b c) a b (start_on_line (edge b c)) convex.a_of_bc))
    (turned_false (is_same_point a c)
    (apart_by (edge a b) a c (start_on_line (edge a b)) convex.c_of_ab))
    (turned_false (is_same_point a d)
    (apart_by (edge a b) a d (start_on_line (edge a b)) convex.d_of_ab))
    (turned_false (is_same_point b c)
    (apart_by (edge a b) b c (end_on_line (edge a b)) convex.c_of_ab))
    (turned_false (is_same_point b d)
    (apart_by (edge a b) b d (end_on_line (edge a b)) convex.d_of_ab))
    (turned_false (is_same_point c d)
    (apart_by (edge b c) c d (end_on_line (edge b c)) convex.d_of_bc)))
    (six_true _ _ _ _ _ _
    (first_holds (is_same_point b b) (is_same_point c a) (not (do_touch (edge a b) (edge b c)))
    (same_self b))
    (no_touch_holds (is_consecutive (edge a b) (edge c d)) (do_touch (edge a b) (edge c d))
    (beside_do_not_touch (edge a b) (edge c d)
    convex.a_of_cd convex.b_of_cd convex.c_of_ab convex.d_of_ab))
    (second_holds (is_same_point b d) (is_same_point a a) (not (do_touch (edge a b) (edge d a)))
    (same_self a))
    (first_holds (is_same_point c c) (is_same_point d b) (not (do_touch (edge b c) (edge c d)))
    (same_self c))
    (no_touch_holds (is_consecutive (edge b c) (edge d a)) (do_touch (edge b c) (edge d a))
    (beside_do_not_touch (edge b c) (edge d a)
    convex.b_of_da convex.c_of_da convex.d_of_bc convex.a_of_bc))
    (first_holds (is_same_point d d) (is_same_point a c) (not (do_touch (edge c d) (edge d a)))
    (same_self d)))

-- the corners of four edges do not lie right of an edge
record AreLeft (e : Edge) (a b c d : Point) : Type 0 where
  at_a : pos 0 ≤ℤ turn_at e (spot_at a)
  at_b : pos 0 ≤ℤ turn_at e (spot_at b)
  at_c : pos 0 ≤ℤ turn_at e (spot_at c)
  at_d : pos 0 ≤ℤ turn_at e (spot_at d)

solid_is_left : (e : Edge) (a b c d : Point) → AreLeft e a b c d
    → is_solid_left_of e (edge a b ∷ edge b c ∷ edge c d ∷ edge d a ∷ []) ≡ true
solid_is_left e a b c d left =
    none_of_four
    (is_struck (right_of e) (middle_of e) (edge a b))
    (is_struck (right_of e) (middle_of e) (edge b c))
    (is_struck (right_of e) (middle_of e) (edge c d))
    (is_struck (right_of e) (middle_of e) (edge d a))
    (left_is_not_struck e (edge a b) left.at_a left.at_b)
    (left_is_not_struck e (edge b c) left.at_b left.at_c)
    (left_is_not_struck e (edge c d) left.at_c left.at_d)
    (left_is_not_struck e (edge d a) left.at_d left.at_a)

-- and the solid lies on the left of each
pub convex_keeps_left : (a b c d : Point) → IsConvex a b c d
    → keep_left ((a ∷ b ∷ c ∷ d ∷ []) ∷ []) ≡ true
convex_keeps_left a b c d convex =
    four_true _ _ _ _
    (solid_is_left (edge a b) a b c d (record {
      at_a = on (start_on_line (edge a b));
      at_b = on (end_on_line (edge a b));
      at_c = beside convex.c_of_ab;
      at_d = beside convex.d_of_ab;
    }))
    (solid_is_left (edge b c) a b c d (record {
      at_a = beside convex.a_of_bc;
      at_b = on (start_on_line (edge b c));
      at_c = on (end_on_line (edge b c));
      at_d = beside convex.d_of_bc;
    }))
    (solid_is_left (edge c d) a b c d (record {
      at_a = beside convex.a_of_cd;
      at_b = beside convex.b_of_cd;
      at_c = on (start_on_line (edge c d));
      at_d = on (end_on_line (edge c d));
    }))
    (solid_is_left (edge d a) a b c d (record {
      at_a = on (end_on_line (edge d a));
      at_b = beside convex.b_of_da;
      at_c = beside convex.c_of_da;
      at_d = on (start_on_line (edge d a));
    }))
  where
    on : {z : ℤ} → z ≡ pos 0 → pos 0 ≤ℤ z
    on {z} zero = omega (arith, ints)

    beside : {z : ℤ} → pos 0 <ℤ z → pos 0 ≤ℤ z
    beside {z} above = omega (arith, ints)
