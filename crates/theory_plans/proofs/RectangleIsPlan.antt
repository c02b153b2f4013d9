-- The four corners of a rectangle are a plan.

use Rattle.std.proofs.Common.{ℤ, pos, ◌≡◌, ◌<ℤ◌, ◌-ℤ◌, ◌*ℤ◌, Bool, true, not, ◌&&◌, IsTrue, List}
use Rattle.std.proofs.Common.{[], ◌∷◌, int_lt, refl, arith, ap, sym, ◌∙◌, subst}
use Rattle.std.specs.Ordering.{int_eq}
use Rattle.std.proofs.lemmas.Int.{ints}
use Rattle.std.proofs.lemmas.Bool.{and_from, and_parts, or_right, false≢true}
use Rattle.std.proofs.lemmas.Bool.Decides.{Decides-int_eq}
use Rattle.std.proofs.Math.IntN.{zero-*ℤ, *ℤ_comm}
use Rattle.sb_fraction.specs.declared.point.Point.{Point}
use Rattle.sb_fraction.specs.Spots.{spot_at}
use Rattle.theory_numbers.proofs.Products.{positive_product, negative_product, product_of_negatives}
use Rattle.theory_numbers.proofs.Signs.{less_from, test_less, test_not_equal}
use Rattle.theory_plans.specs.Loops.{is_rectangle, are_corners, are_loops, is_bent, comes_before}
use Rattle.sb_fraction.specs.Plane.{is_plan_point, is_coordinate}
use Rattle.sb_fraction.specs.Edges.{edge, seen_from, turn_at}
use Rattle.theory_numbers.proofs.Shapes.{var, num, minus, times, equal, cross_by}
use Rattle.theory_plans.specs.Rectangles.{corner, rectangle}
use Rattle.theory_plans.specs.Plans.{are_apart, keep_left, is_plan}
use Rattle.theory_plans.proofs.ConvexIsPlan.{IsLeft, IsConvex, convex_is_apart, convex_keeps_left}

-- a number that is not 0 is told apart from it
not_zero : (z : ℤ) → (z ≡ pos 0 → ⊥) → not (int_eq z (pos 0)) ≡ true
not_zero z other = ap not (test_not_equal z (pos 0) other)

-- a product with 0
zero_times : (q r : ℤ) → q ≡ pos 0 → q *ℤ r ≡ pos 0
zero_times q r zero = ap (λ t. t *ℤ r) zero ∙ zero-*ℤ r

far_above : (k l : ℤ) → pos 0 <ℤ k → l ≡ pos 0 → k -ℤ l ≡ pos 0 → ⊥
far_above k l positive none e = omega (arith, ints)

far_below : (k l : ℤ) → l <ℤ pos 0 → k ≡ pos 0 → k -ℤ l ≡ pos 0 → ⊥
far_below k l negative none e = omega (arith, ints)

-- a way that goes along x and then, not along x, is bent
bent_after_level : (a b c : Point) → b.y ≡ a.y → pos 0 <ℤ ((b.x -ℤ a.x) *ℤ (c.y -ℤ b.y))
    → is_bent a b c ≡ true
bent_after_level a b c level positive =
    not_zero _ (far_above _ _ positive (zero_times (b.y -ℤ a.y) (c.x -ℤ b.x) (omega (arith, ints))))

-- so is one that goes along y and then not along y
bent_after_upright : (a b c : Point) → b.x ≡ a.x → ((b.y -ℤ a.y) *ℤ (c.x -ℤ b.x)) <ℤ pos 0
    → is_bent a b c ≡ true
bent_after_upright a b c upright negative =
    not_zero _ (far_below _ _ negative (zero_times (b.x -ℤ a.x) (c.y -ℤ b.y) (omega (arith, ints))))

-- the corners of a rectangle along x and y
record IsRectangle (a b c d : Point) : Type 0 where
  along_x : a.x <ℤ b.x
  along_y : a.y <ℤ c.y
  by : b.y ≡ a.y
  cx : c.x ≡ b.x
  dx : d.x ≡ a.x
  dy : d.y ≡ c.y

-- it is bent at each of them
record IsBentThrough (a b c d : Point) : Type 0 where
  at_b : is_bent a b c ≡ true
  at_c : is_bent b c d ≡ true
  at_d : is_bent c d a ≡ true
  at_a : is_bent d a b ≡ true

bent_through : (a b c d : Point) → IsRectangle a b c d → IsBentThrough a b c d
bent_through a b c d r = record {
  at_b = bent_after_level a b c r.by
      (positive_product (b.x -ℤ a.x) (c.y -ℤ b.y) (omega (arith, ints)) (omega (arith, ints)));
  at_c = bent_after_upright b c d r.cx
      (negative_product (c.y -ℤ b.y) (d.x -ℤ c.x) (omega (arith, ints)) (omega (arith, ints)));
  at_d = bent_after_level c d a r.dy
      (product_of_negatives (d.x -ℤ c.x) (a.y -ℤ d.y) (omega (arith, ints)) (omega (arith, ints)));
  at_a = bent_after_upright d a b (sym r.dx)
      (rw *ℤ_comm
      (negative_product (b.x -ℤ a.x) (a.y -ℤ d.y) (omega (arith, ints)) (omega (arith, ints))));
}

-- what the test of the corners says
corners_tell : (a b c d : Point) → are_corners a b c d ≡ true → IsRectangle a b c d
corners_tell a b c d all =
    let along_x = and_parts (int_lt a.x b.x) _ all in
    let along_y = and_parts (int_lt a.y c.y) _ along_x.1 in
    let by = and_parts (int_eq b.y a.y) _ along_y.1 in
    let cx = and_parts (int_eq c.x b.x) _ by.1 in
    let dx = and_parts (int_eq d.x a.x) (int_eq d.y c.y) cx.1 in
    record {
      along_x = less_from _ _ along_x.0;
      along_y = less_from _ _ along_y.0;
      by = (Decides-int_eq _ _).0 by.0;
      cx = (Decides-int_eq _ _).0 cx.0;
      dx = (Decides-int_eq _ _).0 dx.0;
      dy = (Decides-int_eq _ _).0 dx.1;
    }

-- a point with these coordinates is in range
in_range_at : (p : Point) (x y : ℤ) → p.x ≡ x → p.y ≡ y
    → is_coordinate x ≡ true → is_coordinate y ≡ true → is_plan_point p ≡ true
in_range_at p x y ex ey at_x at_y = and_from (is_coordinate p.x) (is_coordinate p.y) (rw ex at_x)
    (rw ey at_y)

all_true : (p q r s k l m n u v w : Bool) → p ≡ true → q ≡ true → r ≡ true → s ≡ true
    → k ≡ true → l ≡ true → m ≡ true → n ≡ true → u ≡ true → v ≡ true → w ≡ true
    → (((p && (q && (r && (s && true)))) && ((k && (l && (m && n)))
    && (u && (v && (w && true))))) && true) ≡ true
all_true p q r s k l m n u v w ep eq er es ek el em en eu ev ew =
    rw (ep, eq, er, es, ek, el, em, en, eu, ev, ew) refl

-- a point with a lesser x comes before
lesser_x_first : (p q : Point) → p.x <ℤ q.x → comes_before p q ≡ true
lesser_x_first p q less = rw (test_less p.x q.x less) refl

-- so does one with the same x and a lesser y
lesser_y_first : (p q : Point) → q.x ≡ p.x → p.y <ℤ q.y → comes_before p q ≡ true
lesser_y_first p q same less =
    or_right (int_lt p.x q.x) _ (and_from (int_eq p.x q.x) (int_lt p.y q.y)
    ((Decides-int_eq p.x q.x).1 (sym same)) (test_less p.y q.y less))

-- the four corners of a rectangle are a normalised loop
rectangle_is_loop : (loops : List (List Point)) → IsTrue (is_rectangle loops)
    → IsTrue (are_loops loops)
rectangle_is_loop ((a ∷ b ∷ c ∷ d ∷ []) ∷ []) is =
    let parts = and_parts (are_corners a b c d) (is_plan_point a && is_plan_point c) is in
    let r = corners_tell a b c d parts.0 in
    let bent = bent_through a b c d r in
    let range = and_parts (is_plan_point a) (is_plan_point c) parts.1 in
    let at_a = and_parts (is_coordinate a.x) (is_coordinate a.y) range.0 in
    let at_c = and_parts (is_coordinate c.x) (is_coordinate c.y) range.1 in
    all_true (is_plan_point a) (is_plan_point b) (is_plan_point c) (is_plan_point d)
    (is_bent a b c) (is_bent b c d) (is_bent c d a) (is_bent d a b)
    (comes_before a b) (comes_before a c) (comes_before a d)
    range.0 (in_range_at b c.x a.y (sym r.cx) r.by at_c.0 at_a.1)
    range.1 (in_range_at d a.x c.y r.dx r.dy at_a.0 at_c.1)
    bent.at_b bent.at_c bent.at_d bent.at_a
    (lesser_x_first a b r.along_x)
    (lesser_x_first a c (let same = r.cx in let less = r.along_x in omega (arith, ints)))
    (lesser_y_first a d r.dx (let same = r.dy in let less = r.along_y in omega (arith, ints)))
rectangle_is_loop _ is = absurd (false≢true is)

-- ---- its corners lie left of its edges

-- how far a point lies left of an edge along x
beside_level : (a b p : Point) → b.y ≡ a.y
    → turn_at (edge a b) (spot_at p) ≡ (b.x -ℤ a.x) *ℤ (p.y -ℤ a.y)
beside_level a b p level =
    ap (λ y. turn_at (edge a (corner b.x y)) (spot_at p)) level
    ∙ equal
    (cross_by (seen_from (spot_at p) a) (seen_from (spot_at p) (corner b.x a.y))
    (minus (times (var a.x) (num 1)) (var p.x)) (minus (times (var a.y) (num 1)) (var p.y))
    (minus (times (var b.x) (num 1)) (var p.x)) (minus (times (var a.y) (num 1)) (var p.y)))
    (times (minus (var b.x) (var a.x)) (minus (var p.y) (var a.y)))
    (omega arith)

-- and of one along y
beside_upright : (a b p : Point) → b.x ≡ a.x
    → turn_at (edge a b) (spot_at p) ≡ (b.y -ℤ a.y) *ℤ (a.x -ℤ p.x)
beside_upright a b p upright =
    ap (λ x. turn_at (edge a (corner x b.y)) (spot_at p)) upright
    ∙ equal
    (cross_by (seen_from (spot_at p) a) (seen_from (spot_at p) (corner a.x b.y))
    (minus (times (var a.x) (num 1)) (var p.x)) (minus (times (var a.y) (num 1)) (var p.y))
    (minus (times (var a.x) (num 1)) (var p.x)) (minus (times (var b.y) (num 1)) (var p.y)))
    (times (minus (var b.y) (var a.y)) (minus (var a.x) (var p.x)))
    (omega arith)

left_of_level : (a b p : Point) → b.y ≡ a.y → a.x <ℤ b.x → a.y <ℤ p.y → IsLeft a b p
left_of_level a b p level on up =
    subst (λ z. pos 0 <ℤ z) (sym (beside_level a b p level))
    (positive_product (b.x -ℤ a.x) (p.y -ℤ a.y) (omega (arith, ints)) (omega (arith, ints)))

left_of_level_back : (a b p : Point) → b.y ≡ a.y → b.x <ℤ a.x → p.y <ℤ a.y → IsLeft a b p
left_of_level_back a b p level back down =
    subst (λ z. pos 0 <ℤ z) (sym (beside_level a b p level))
    (product_of_negatives (b.x -ℤ a.x) (p.y -ℤ a.y) (omega (arith, ints)) (omega (arith, ints)))

left_of_upright : (a b p : Point) → b.x ≡ a.x → a.y <ℤ b.y → p.x <ℤ a.x → IsLeft a b p
left_of_upright a b p upright up before =
    subst (λ z. pos 0 <ℤ z) (sym (beside_upright a b p upright))
    (positive_product (b.y -ℤ a.y) (a.x -ℤ p.x) (omega (arith, ints)) (omega (arith, ints)))

left_of_upright_down : (a b p : Point) → b.x ≡ a.x → b.y <ℤ a.y → a.x <ℤ p.x → IsLeft a b p
left_of_upright_down a b p upright down after =
    subst (λ z. pos 0 <ℤ z) (sym (beside_upright a b p upright))
    (product_of_negatives (b.y -ℤ a.y) (a.x -ℤ p.x) (omega (arith, ints)) (omega (arith, ints)))

rectangle_is_convex : (a b c d : Point) → IsRectangle a b c d → IsConvex a b c d
rectangle_is_convex a b c d r =
    let along_x = r.along_x in
    let along_y = r.along_y in
    let by = r.by in
    let cx = r.cx in
    let dx = r.dx in
    let dy = r.dy in
    record {
      c_of_ab = left_of_level a b c by along_x along_y;
      d_of_ab = left_of_level a b d by along_x (omega (arith, ints));
      d_of_bc = left_of_upright b c d cx (omega (arith, ints)) (omega (arith, ints));
      a_of_bc = left_of_upright b c a cx (omega (arith, ints)) (omega (arith, ints));
      a_of_cd = left_of_level_back c d a dy (omega (arith, ints)) (omega (arith, ints));
      b_of_cd = left_of_level_back c d b dy (omega (arith, ints)) (omega (arith, ints));
      b_of_da = left_of_upright_down d a b (sym dx) (omega (arith, ints)) (omega (arith, ints));
      c_of_da = left_of_upright_down d a c (sym dx) (omega (arith, ints)) (omega (arith, ints));
    }

-- the four corners of a rectangle are a plan
pub rectangle_is_plan : (loops : List (List Point)) → IsTrue (is_rectangle loops)
    → IsTrue (is_plan loops)
rectangle_is_plan ((a ∷ b ∷ c ∷ d ∷ []) ∷ []) is =
    let loops = (a ∷ b ∷ c ∷ d ∷ []) ∷ [] in
    let parts = and_parts (are_corners a b c d) (is_plan_point a && is_plan_point c) is in
    let convex = rectangle_is_convex a b c d (corners_tell a b c d parts.0) in
    and_from (are_loops loops) (are_apart loops && keep_left loops) (rectangle_is_loop loops is)
    (and_from (are_apart loops) (keep_left loops) (convex_is_apart a b c d convex)
    (convex_keeps_left a b c d convex))
rectangle_is_plan _ is = absurd (false≢true is)

-- two abscissae and two numbers in range, each two rising, make a rectangle
pub sides_make_rectangle : (x0 x1 y0 y1 : ℤ) → int_lt x0 x1 ≡ true → int_lt y0 y1 ≡ true
    → is_coordinate x0 ≡ true → is_coordinate x1 ≡ true
    → is_coordinate y0 ≡ true → is_coordinate y1 ≡ true
    → IsTrue (is_rectangle (rectangle x0 x1 y0 y1 ∷ []))
sides_make_rectangle x0 x1 y0 y1 along_x along_y low_x high_x low_y high_y =
    rw (along_x, along_y, same y0, same x1, same x0, same y1, low_x, high_x, low_y, high_y) refl
  where
    same : (z : ℤ) → int_eq z z ≡ true
    same z = (Decides-int_eq z z).1 refl
