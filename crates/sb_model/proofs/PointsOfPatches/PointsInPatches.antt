-- A point lies inside a patch by its numbers, whatever common factor they have.

use Rattle.std.proofs.Common.{ℤ, pos, ◌≡◌, ◌≤◌, ◌<ℤ◌, ◌+ℤ◌, ◌-ℤ◌, ◌*ℤ◌, ◌∙◌, ap, ap₂, sym, refl, arith, true, ◌&&◌}
use Rattle.std.proofs.Common.{IsTrue, int_lt, nat_le, unsigned_abs, FitsSigned, lit<, lit≤, le_trans}
use Rattle.std.specs.Int.{w128}
use Rattle.std.proofs.Math.Nat.{mul-le-mul}
use Rattle.std.proofs.lemmas.Bool.{and_parts, leb-true, false≢true}
use Rattle.std.proofs.lemmas.Int.{to_z-of_z, ints, fits_signed_mul, unsigned_abs-mul}
use Rattle.theory_numbers.specs.Arrows.{Arrow, cross}
use Rattle.theory_numbers.specs.Rationals.{rational, is_below}
use Rattle.theory_numbers.specs.Fractions.{Ratio}
use Rattle.theory_numbers.proofs.Multiples.{sign_of_multiple, order_of_multiples}
use Rattle.theory_numbers.proofs.Ring.{mul_comm}
use Rattle.theory_numbers.proofs.Shapes.{var, num, plus, minus, times, equal}
use Rattle.theory_numbers.proofs.Signs.{same_less, less_from}
use Rattle.theory_plane.specs.Sides.{LineSide, level}
use Rattle.theory_plane.specs.Points.{face_point, is_above_side, is_under_side}
use Rattle.theory_plane.specs.Regions.{Region, is_inside, is_spanned}
use Rattle.sb_fraction.specs.declared.point.HPoint.{HPoint}
use Rattle.sb_fraction.specs.declared.direction.Direction.{Direction}
use Rattle.sb_fraction.specs.Plane.{longest_step}
use Rattle.sb_fraction.specs.Bounds.{is_crossing_size, greatest_abscissa, greatest_cross, greatest_crossing}
use Rattle.sb_fraction.specs.Bounds.{is_abscissa_size as is_height_size}
use Rattle.sb_fraction.specs.Lines.{arrow_along, flat}
use Rattle.sb_fraction.specs.Spots.{spot_of, times_w}
use Rattle.sb_fraction.specs.Directions.{axis_x, axis_y}
use Rattle.sb_points.specs.Places.{spot_over}
use Rattle.sb_model.specs.declared.faces.face.FaceKind.{FaceKind}
use Rattle.sb_model.specs.declared.faces.face.FaceKind.TheVariants as kind
use Rattle.sb_model.specs.declared.faces.face.Side.{Side}
use Rattle.sb_model.specs.declared.faces.face.Side.TheVariants.{OnLine, Height}
use Rattle.sb_model.specs.declared.patches.patch.Patch.{Patch}
use Rattle.sb_fraction.specs.Bounds.{is_fraction}
use Rattle.sb_model.specs.Surfaces.Sides.{is_abscissa_size as is_end, line_of, is_side_of, arrow_of}
use Rattle.sb_model.specs.Surfaces.SideLines.{is_upright, seen_along, greatest_reading}
use Rattle.sb_model.specs.Surfaces.Patches.{region_of}
use Rattle.sb_model.proofs.LinesOfSides.{low_in, high_in, lower_in, upper_in, lower_of_kind, upper_of_kind}
use Rattle.sb_model.proofs.LinesOfSides.{direction_x_in, direction_y_in, side_dx_in, side_dy_in, side_off_in}
use Rattle.sb_model.proofs.PointsOfPatches.CornersFit.{offset_is_cross}

-- ---- sizes

pub product_fits : (a b : ℤ) → unsigned_abs a ≤ greatest_abscissa → unsigned_abs b ≤ greatest_cross
    → FitsSigned w128 (a *ℤ b)
product_fits a b a_in b_in = fits_signed_mul w128 a b greatest_abscissa greatest_cross a_in b_in (lit< tt)

pub reading_fits : (a b : ℤ) → unsigned_abs a ≤ greatest_crossing → unsigned_abs b ≤ longest_step
    → FitsSigned w128 (a *ℤ b)
reading_fits a b a_in b_in = fits_signed_mul w128 a b greatest_crossing longest_step a_in b_in (lit< tt)

pub reading_size : (a b : ℤ) → unsigned_abs a ≤ greatest_crossing → unsigned_abs b ≤ longest_step
    → unsigned_abs (a *ℤ b) ≤ greatest_reading
reading_size a b a_in b_in = rw unsigned_abs-mul (le_trans (mul-le-mul a_in b_in) (lit≤ tt))

pub crossing_is_abscissa : (z : ℤ) → unsigned_abs z ≤ greatest_crossing → unsigned_abs z ≤ greatest_abscissa
crossing_is_abscissa z size = le_trans size (lit≤ tt)

-- an end of a patch
pub end_num_in : (u : Ratio) → IsTrue (is_end u) → unsigned_abs u.num ≤ greatest_abscissa
end_num_in u size =
    let parts = and_parts (is_fraction u) (nat_le (unsigned_abs u.num) greatest_abscissa
    && nat_le (unsigned_abs u.den) greatest_cross) size in
    leb-true (unsigned_abs u.num) greatest_abscissa (and_parts (nat_le (unsigned_abs u.num) greatest_abscissa)
    (nat_le (unsigned_abs u.den) greatest_cross) parts.1).0

pub end_den_in : (u : Ratio) → IsTrue (is_end u) → unsigned_abs u.den ≤ greatest_cross
end_den_in u size =
    let parts = and_parts (is_fraction u) (nat_le (unsigned_abs u.num) greatest_abscissa
    && nat_le (unsigned_abs u.den) greatest_cross) size in
    leb-true (unsigned_abs u.den) greatest_cross (and_parts (nat_le (unsigned_abs u.num) greatest_abscissa)
    (nat_le (unsigned_abs u.den) greatest_cross) parts.1).1

-- the numbers of a point
pub crossing_x_in : (p : HPoint) → IsTrue (is_crossing_size (spot_of p)) → unsigned_abs p.x ≤ greatest_crossing
crossing_x_in p size =
    leb-true _ _ (and_parts (nat_le (unsigned_abs p.x) greatest_crossing)
    (nat_le (unsigned_abs p.y) greatest_crossing && nat_le (unsigned_abs p.w) greatest_cross) size).0

pub crossing_w_in : (p : HPoint) → IsTrue (is_crossing_size (spot_of p)) → unsigned_abs p.w ≤ greatest_cross
crossing_w_in p size =
    leb-true _ _ (and_parts (nat_le (unsigned_abs p.y) greatest_crossing) (nat_le (unsigned_abs p.w) greatest_cross)
    (and_parts (nat_le (unsigned_abs p.x) greatest_crossing)
    (nat_le (unsigned_abs p.y) greatest_crossing && nat_le (unsigned_abs p.w) greatest_cross) size).1).1

pub height_den_in : (z : Ratio) → IsTrue (is_height_size z) → unsigned_abs z.den ≤ greatest_cross
height_den_in z size =
    leb-true _ _ (and_parts (nat_le (unsigned_abs z.num) greatest_abscissa) (nat_le (unsigned_abs z.den) greatest_cross) size).1

-- for places
pub ruleset places = (
  crossing_x_in,
  crossing_w_in,
  height_den_in,
  to_z-of_z,
  product_fits,
  reading_fits,
  reading_size,
  crossing_is_abscissa,
  end_num_in,
  end_den_in,
  low_in,
  high_in,
  lower_in,
  upper_in,
  direction_x_in,
  direction_y_in,
  side_dx_in,
  side_dy_in,
  side_off_in,
  offset_is_cross,
)

-- ---- abscissae

less-gap : (a b : ℤ) → int_lt a b ≡ int_lt (pos 0) (b -ℤ a)
less-gap a b = same_less a b (pos 0) (b -ℤ a) (λ less. omega (arith, ints)) (λ less. omega (arith, ints))

after-end : (u : Ratio) (n d : ℤ) → int_lt (u.num *ℤ d) (n *ℤ u.den) ≡ is_below (arrow_of u) (rational n d)
unfolding cross
after-end u n d =
    less-gap (u.num *ℤ d) (n *ℤ u.den)
    ∙ ap (λ t. int_lt (pos 0) (t -ℤ (u.num *ℤ d))) (mul_comm n u.den)

before-end : (u : Ratio) (n d : ℤ) → int_lt (n *ℤ u.den) (u.num *ℤ d) ≡ is_below (rational n d) (arrow_of u)
unfolding cross
before-end u n d =
    less-gap (n *ℤ u.den) (u.num *ℤ d)
    ∙ ap (λ t. int_lt (pos 0) (t -ℤ (n *ℤ u.den))) (mul_comm u.num d)

-- an abscissa is spanned where it lies after the low end and before the high end
pub spanned-by : (p : Patch) (n d : ℤ)
    → (int_lt (p.low.num *ℤ d) (n *ℤ p.low.den) && int_lt (n *ℤ p.high.den) (p.high.num *ℤ d))
    ≡ is_spanned (region_of p) (rational n d)
spanned-by p n d = ap₂ (λ a b. a && b) (after-end p.low n d) (before-end p.high n d)

-- ---- multiples

cross-multiple : (a u : Arrow) (k : ℤ)
    → (a.x *ℤ (k *ℤ u.y)) -ℤ (a.y *ℤ (k *ℤ u.x)) ≡ k *ℤ ((a.x *ℤ u.y) -ℤ (a.y *ℤ u.x))
cross-multiple a u k = ring a.x a.y u.x u.y k
  where
    ring : (p q r s k : ℤ) → (p *ℤ (k *ℤ s)) -ℤ (q *ℤ (k *ℤ r)) ≡ k *ℤ ((p *ℤ s) -ℤ (q *ℤ r))
    ring p q r s k =
        equal (minus (times (var p) (times (var k) (var s))) (times (var q) (times (var k) (var r))))
        (times (var k) (minus (times (var p) (var s)) (times (var q) (var r)))) (omega arith)

multiple-cross : (a u : Arrow) (k : ℤ)
    → ((k *ℤ u.x) *ℤ a.y) -ℤ ((k *ℤ u.y) *ℤ a.x) ≡ k *ℤ ((u.x *ℤ a.y) -ℤ (u.y *ℤ a.x))
multiple-cross a u k = ring a.x a.y u.x u.y k
  where
    ring : (p q r s k : ℤ) → ((k *ℤ r) *ℤ q) -ℤ ((k *ℤ s) *ℤ p) ≡ k *ℤ ((r *ℤ q) -ℤ (s *ℤ p))
    ring p q r s k =
        equal (minus (times (times (var k) (var r)) (var q)) (times (times (var k) (var s)) (var p)))
        (times (var k) (minus (times (var r) (var q)) (times (var s) (var p)))) (omega arith)

below-multiple : (a : Arrow) (u w k : ℤ) → pos 0 <ℤ k
    → is_below a (rational (k *ℤ u) (k *ℤ w)) ≡ is_below a (rational u w)
unfolding cross
below-multiple a u w k positive =
    ap (int_lt (pos 0)) (cross-multiple a (rational u w) k) ∙ sign_of_multiple k _ positive

multiple-below : (a : Arrow) (u w k : ℤ) → pos 0 <ℤ k
    → is_below (rational (k *ℤ u) (k *ℤ w)) a ≡ is_below (rational u w) a
unfolding cross
multiple-below a u w k positive =
    ap (int_lt (pos 0)) (multiple-cross a (rational u w) k) ∙ sign_of_multiple k _ positive

spanned-multiple : (r : Region) (u w k : ℤ) → pos 0 <ℤ k
    → is_spanned r (rational (k *ℤ u) (k *ℤ w)) ≡ is_spanned r (rational u w)
spanned-multiple r u w k positive =
    ap₂ (λ a b. a && b) (below-multiple r.low u w k positive) (multiple-below r.high u w k positive)

offset-multiple : (o w k : ℤ) → o *ℤ (k *ℤ w) ≡ k *ℤ (o *ℤ w)
offset-multiple o w k =
    equal (times (var o) (times (var k) (var w))) (times (var k) (times (var o) (var w))) (omega arith)

rise-multiple : (p q v u k : ℤ)
    → (p *ℤ (k *ℤ v)) -ℤ (q *ℤ (k *ℤ u)) ≡ k *ℤ ((p *ℤ v) -ℤ (q *ℤ u))
rise-multiple p q v u k =
    equal (minus (times (var p) (times (var k) (var v))) (times (var q) (times (var k) (var u))))
    (times (var k) (minus (times (var p) (var v)) (times (var q) (var u)))) (omega arith)

above-multiple : (l : LineSide) (u v w k : ℤ) → pos 0 <ℤ k
    → is_above_side l (face_point (k *ℤ u) (k *ℤ v) (k *ℤ w)) ≡ is_above_side l (face_point u v w)
above-multiple l u v w k positive =
    ap₂ int_lt (offset-multiple l.off w k) (rise-multiple l.dx l.dy v u k)
    ∙ order_of_multiples k (l.off *ℤ w) ((l.dx *ℤ v) -ℤ (l.dy *ℤ u)) positive

under-multiple : (l : LineSide) (u v w k : ℤ) → pos 0 <ℤ k
    → is_under_side l (face_point (k *ℤ u) (k *ℤ v) (k *ℤ w)) ≡ is_under_side l (face_point u v w)
under-multiple l u v w k positive =
    ap₂ int_lt (rise-multiple l.dx l.dy v u k) (offset-multiple l.off w k)
    ∙ order_of_multiples k ((l.dx *ℤ v) -ℤ (l.dy *ℤ u)) (l.off *ℤ w) positive

inside-multiple : (r : Region) (u v w k : ℤ) → pos 0 <ℤ k
    → is_inside r (face_point (k *ℤ u) (k *ℤ v) (k *ℤ w)) ≡ is_inside r (face_point u v w)
inside-multiple r u v w k positive =
    ap₂ (λ a b. a && b) (spanned-multiple r u w k positive)
    (ap₂ (λ a b. a && b) (above-multiple r.lower u v w k positive) (under-multiple r.upper u v w k positive))

-- ---- level faces

-- over a point of the plan the height does not matter
pub inside-level : (r : Region) (p : HPoint) (z : Ratio) → pos 0 <ℤ z.den
    → is_inside r (face_point p.x p.y p.w)
    ≡ is_inside r (face_point (times_w (spot_over p z) axis_x) (times_w (spot_over p z) axis_y) (spot_over p z).w)
inside-level r p z positive =
    sym (inside-multiple r p.x p.y p.w z.den positive)
    ∙ ap₂ (λ u v. is_inside r (face_point u v (z.den *ℤ p.w)))
    (sym (first (z.den *ℤ p.x) (z.den *ℤ p.y) (p.w *ℤ z.num)))
    (sym (second (z.den *ℤ p.x) (z.den *ℤ p.y) (p.w *ℤ z.num)))
  where
    first : (x y t : ℤ) → ((x *ℤ pos 1) +ℤ (y *ℤ pos 0)) +ℤ (t *ℤ pos 0) ≡ x
    first x y t =
        equal (plus (plus (times (var x) (num 1)) (times (var y) (num 0))) (times (var t) (num 0))) (var x) (omega arith)

    second : (x y t : ℤ) → ((x *ℤ pos 0) +ℤ (y *ℤ pos 1)) +ℤ (t *ℤ pos 0) ≡ y
    second x y t =
        equal (plus (plus (times (var x) (num 0)) (times (var y) (num 1))) (times (var t) (num 0))) (var y) (omega arith)

-- ---- side faces

level_side : (k : FaceKind) (s : Side) → is_upright k ≡ true → is_side_of k s ≡ true → line_of s ≡ level (line_of s).off
level_side k (Height h) upright is = refl
level_side (kind.Side k) (OnLine l) upright is = absurd (false≢true is)
level_side kind.Bottom (OnLine l) upright is = absurd (false≢true upright)
level_side kind.Top (OnLine l) upright is = absurd (false≢true upright)

above-level : (h u z zd w : ℤ) → pos 0 <ℤ w → is_above_side (level h) (face_point u (w *ℤ z) (zd *ℤ w)) ≡ int_lt (h *ℤ zd) z
above-level h u z zd w positive =
    ap₂ int_lt (moved h zd w) (no_slope u (w *ℤ z)) ∙ order_of_multiples w (h *ℤ zd) z positive
  where
    moved : (h zd w : ℤ) → h *ℤ (zd *ℤ w) ≡ w *ℤ (h *ℤ zd)
    moved h zd w =
        equal (times (var h) (times (var zd) (var w))) (times (var w) (times (var h) (var zd))) (omega arith)

    no_slope : (u v : ℤ) → (pos 1 *ℤ v) -ℤ (pos 0 *ℤ u) ≡ v
    no_slope u v = equal (minus (times (num 1) (var v)) (times (num 0) (var u))) (var v) (omega arith)

under-level : (h u z zd w : ℤ) → pos 0 <ℤ w → is_under_side (level h) (face_point u (w *ℤ z) (zd *ℤ w)) ≡ int_lt z (h *ℤ zd)
under-level h u z zd w positive =
    ap₂ int_lt (no_slope u (w *ℤ z)) (moved h zd w) ∙ order_of_multiples w z (h *ℤ zd) positive
  where
    moved : (h zd w : ℤ) → h *ℤ (zd *ℤ w) ≡ w *ℤ (h *ℤ zd)
    moved h zd w =
        equal (times (var h) (times (var zd) (var w))) (times (var w) (times (var h) (var zd))) (omega arith)

    no_slope : (u v : ℤ) → (pos 1 *ℤ v) -ℤ (pos 0 *ℤ u) ≡ v
    no_slope u v = equal (minus (times (num 1) (var v)) (times (num 0) (var u))) (var v) (omega arith)

-- along a direction only the abscissa and the height matter
pub inside-along : (patch : Patch) (d : Direction) (p : HPoint) (z : Ratio) → is_upright patch.face.kind ≡ true
    → pos 0 <ℤ z.den
    → (is_spanned (region_of patch) (rational ((p.x *ℤ d.x) +ℤ (p.y *ℤ d.y)) p.w)
    && (int_lt ((line_of patch.lower).off *ℤ z.den) z.num && int_lt z.num ((line_of patch.upper).off *ℤ z.den)))
    ≡ is_inside (region_of patch) (seen_along (flat (arrow_along d)) (spot_over p z))
inside-along patch d p z upright positive =
    let n = (p.x *ℤ d.x) +ℤ (p.y *ℤ d.y) in
    let w_positive = less_from (pos 0) p.w p.positive in
    let u_is = along p.x p.y z.den (p.w *ℤ z.num) d.x d.y in
    let v_is = height (z.den *ℤ p.x) (z.den *ℤ p.y) (p.w *ℤ z.num) in
    ap₂ (λ a b. a && b) (sym (spanned-multiple (region_of patch) n p.w z.den positive))
    (ap₂ (λ a b. a && b)
    (sym (above-level (line_of patch.lower).off (z.den *ℤ n) z.num z.den p.w w_positive)
    ∙ ap (λ l. is_above_side l (face_point (z.den *ℤ n) (p.w *ℤ z.num) (z.den *ℤ p.w)))
    (sym (level_side patch.face.kind patch.lower upright (lower_of_kind patch))))
    (sym (under-level (line_of patch.upper).off (z.den *ℤ n) z.num z.den p.w w_positive)
    ∙ ap (λ l. is_under_side l (face_point (z.den *ℤ n) (p.w *ℤ z.num) (z.den *ℤ p.w)))
    (sym (level_side patch.face.kind patch.upper upright (upper_of_kind patch)))))
    ∙ ap₂ (λ u v. is_inside (region_of patch) (face_point u v (z.den *ℤ p.w))) (sym u_is) (sym v_is)
  where
    along : (x y k t dx dy : ℤ)
        → (((k *ℤ x) *ℤ dx) +ℤ ((k *ℤ y) *ℤ dy)) +ℤ (t *ℤ pos 0) ≡ k *ℤ ((x *ℤ dx) +ℤ (y *ℤ dy))
    along x y k t dx dy =
        equal (plus (plus (times (times (var k) (var x)) (var dx)) (times (times (var k) (var y)) (var dy)))
        (times (var t) (num 0)))
        (times (var k) (plus (times (var x) (var dx)) (times (var y) (var dy)))) (omega arith)

    height : (x y t : ℤ) → ((x *ℤ pos 0) +ℤ (y *ℤ pos 0)) +ℤ (t *ℤ pos 1) ≡ t
    height x y t =
        equal (plus (plus (times (var x) (num 0)) (times (var y) (num 0))) (times (var t) (num 1))) (var t) (omega arith)
