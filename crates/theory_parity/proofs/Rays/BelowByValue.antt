-- At the point (u, v) in the frame of a direction an edge lies below where it reaches past u with a
-- lesser value.

use Rattle.std.proofs.Common.{◌≡◌, ap, ap₂, ◌∙◌, arith, ℤ, pos, ◌<ℤ◌, ◌+ℤ◌, ◌-ℤ◌, ◌*ℤ◌}
use Rattle.std.proofs.Common.{◌&&◌, int_lt}
use Rattle.std.specs.Ordering.{int_eq}
use Rattle.std.proofs.lemmas.Bool.Decides.{Decides-int_eq}
use Rattle.theory_lists.specs.Parity.{differ}
use Rattle.theory_numbers.specs.Arrows.{Arrow, arrow, cross, dot, scale}
use Rattle.theory_numbers.specs.Rationals.{IsRational, is_below, rational}
use Rattle.theory_numbers.proofs.Shapes.{var, plus, minus, times, equal, cross_by, dot_by, dot_is}
use Rattle.theory_numbers.proofs.Signs.{less_from, test_less, same_tests}
use Rattle.theory_numbers.proofs.Vectors.Arrows.{scale-cross, same_arrow}
use Rattle.theory_numbers.proofs.Multiples.{sign_of_multiple, order_of_multiples}
use Rattle.theory_numbers.proofs.Multiples.{equality_of_multiples}
use Rattle.theory_numbers.proofs.Products.{positive_product}
use Rattle.theory_numbers.proofs.Ring.{mul_comm}
use Rattle.theory_plane.specs.Sides.{LineSide, value_on}
use Rattle.theory_plane.specs.Points.{FacePoint, face_point, point_at, abscissa_of, ordinate_of}
use Rattle.theory_plane.specs.Points.{is_above_side, is_on_side}
use Rattle.theory_plane.proofs.Points.{above_at, above_is, on_at}
use Rattle.sb_fraction.specs.declared.point.Point.{Point}
use Rattle.sb_fraction.specs.Spots.{Spot, IsSpot}
use Rattle.sb_fraction.specs.Edges.{Edge}
use Rattle.sb_fraction.specs.Crossings.{abscissa_at}
use Rattle.sb_fraction.specs.Lines.{flat, in_frame, line_over, lies_after, reaches_past}
use Rattle.theory_parity.specs.Below.{IsWay, abscissa_in, is_below_at, spot_from, spot_in}
use Rattle.theory_parity.specs.Below.{is_lower_at}

-- ---- the point at u and v, seen in the frame

-- the numbers of a face point k times as large
abbrev pub scaled_point : ℤ → FacePoint → FacePoint
scaled_point k f = face_point (k *ℤ f.u) (k *ℤ f.v) (k *ℤ f.w)

same_face_point : {u v w u' v' w' : ℤ} → u ≡ u' → v ≡ v' → w ≡ w'
    → face_point u v w ≡ face_point u' v' w'
same_face_point {u} {v} {w} {u'} {v'} {w'} eu ev ew =
    ap (λ t. face_point t v w) eu ∙ ap (λ t. face_point u' t w) ev
    ∙ ap (λ t. face_point u' v' t) ew

-- the plan point of a face point has its numbers in the frame, d·d times
pub in_frame-spot_from : (d : Arrow) (f : FacePoint)
    → in_frame d (spot_from d f) ≡ scaled_point (dot d d) f
in_frame-spot_from d f = same_face_point along across (refl_of (dot d d *ℤ f.w))
  where
    refl_of : (n : ℤ) → n ≡ n
    refl_of n = equal (var n) (var n) (omega arith)

    x : ℤ
    x = (f.u *ℤ d.x) -ℤ (f.v *ℤ d.y)

    y : ℤ
    y = (f.u *ℤ d.y) +ℤ (f.v *ℤ d.x)

    along : dot d (arrow ((f.u *ℤ d.x) -ℤ (f.v *ℤ d.y)) ((f.u *ℤ d.y) +ℤ (f.v *ℤ d.x)))
        ≡ dot d d *ℤ f.u
    along =
        equal
        (dot_by d (arrow ((f.u *ℤ d.x) -ℤ (f.v *ℤ d.y)) ((f.u *ℤ d.y) +ℤ (f.v *ℤ d.x)))
        (var d.x) (var d.y)
        (minus (times (var f.u) (var d.x)) (times (var f.v) (var d.y)))
        (plus (times (var f.u) (var d.y)) (times (var f.v) (var d.x))))
        (times (dot_is d d) (var f.u))
        (omega arith)

    across : cross d (arrow ((f.u *ℤ d.x) -ℤ (f.v *ℤ d.y)) ((f.u *ℤ d.y) +ℤ (f.v *ℤ d.x)))
        ≡ dot d d *ℤ f.v
    across =
        equal
        (cross_by d (arrow ((f.u *ℤ d.x) -ℤ (f.v *ℤ d.y)) ((f.u *ℤ d.y) +ℤ (f.v *ℤ d.x)))
        (var d.x) (var d.y)
        (minus (times (var f.u) (var d.x)) (times (var f.v) (var d.y)))
        (plus (times (var f.u) (var d.y)) (times (var f.v) (var d.x))))
        (times (dot_is d d) (var f.v))
        (omega arith)

-- it is a point
pub spot_in_is : (d u v : Arrow) → IsWay d → IsRational u → IsRational v → IsSpot (spot_in d u v)
spot_in_is d u v d_is u_in v_in =
    positive_product (dot d d) (u.x *ℤ v.x) d_is (positive_product u.x v.x u_in v_in)

-- ---- tests that lose a positive factor

after_scaled : (k : ℤ) (u t : Arrow) → pos 0 <ℤ k
    → is_below (arrow (k *ℤ u.x) (k *ℤ u.y)) t ≡ is_below u t
after_scaled k u t above =
    ap (int_lt (pos 0)) (scale-cross k u t) ∙ sign_of_multiple k (cross u t) above

off_scaled : (k off w : ℤ) → off *ℤ (k *ℤ w) ≡ k *ℤ (off *ℤ w)
off_scaled k off w =
    equal (times (var off) (times (var k) (var w))) (times (var k) (times (var off) (var w)))
    (omega arith)

rest_scaled : (k dx dy u v : ℤ)
    → (dx *ℤ (k *ℤ v)) -ℤ (dy *ℤ (k *ℤ u)) ≡ k *ℤ ((dx *ℤ v) -ℤ (dy *ℤ u))
rest_scaled k dx dy u v =
    equal
    (minus (times (var dx) (times (var k) (var v))) (times (var dy) (times (var k) (var u))))
    (times (var k) (minus (times (var dx) (var v)) (times (var dy) (var u))))
    (omega arith)

above_scaled : (k : ℤ) (l : LineSide) (f : FacePoint) → pos 0 <ℤ k
    → is_above_side l (scaled_point k f) ≡ is_above_side l f
above_scaled k l f above =
    ap₂ int_lt (off_scaled k l.off f.w) (rest_scaled k l.dx l.dy f.u f.v)
    ∙ order_of_multiples k (l.off *ℤ f.w) ((l.dx *ℤ f.v) -ℤ (l.dy *ℤ f.u)) above

on_scaled : (k : ℤ) (l : LineSide) (f : FacePoint) → pos 0 <ℤ k
    → is_on_side l (scaled_point k f) ≡ is_on_side l f
on_scaled k l f above =
    ap₂ int_eq (rest_scaled k l.dx l.dy f.u f.v) (off_scaled k l.off f.w)
    ∙ equality_of_multiples k ((l.dx *ℤ f.v) -ℤ (l.dy *ℤ f.u)) (l.off *ℤ f.w) above

-- ---- the point at u and v, by its tests

-- its abscissa is u, but for a factor
pub abscissa_of_spot : (d u v : Arrow)
    → abscissa_in d (spot_in d u v) ≡ scale (dot d d) (scale v.x u)
abscissa_of_spot d u v =
    ap abscissa_of (in_frame-spot_from d (point_at u v))
    ∙ ap (scale (dot d d))
    (same_arrow (arrow (u.x *ℤ v.x) (u.y *ℤ v.x)) (scale v.x u) (mul_comm u.x v.x)
    (mul_comm u.y v.x))

-- what lies after it lies after u
pub after_spot : (d u v : Arrow) (a : Point) → IsWay d → IsRational v
    → lies_after d (abscissa_in d (spot_in d u v)) a ≡ lies_after d u a
after_spot d u v a d_is v_in =
    let at = rational (abscissa_at a (flat d)) (pos 1) in
    ap (λ t. is_below t at) (abscissa_of_spot d u v)
    ∙ after_scaled (dot d d) (scale v.x u) at d_is ∙ after_scaled v.x u at v_in

-- so an edge reaches past the one where it reaches past the other
pub reaches_past_spot : (d u v : Arrow) (e : Edge) → IsWay d → IsRational v
    → reaches_past d (abscissa_in d (spot_in d u v)) e ≡ reaches_past d u e
reaches_past_spot d u v e d_is v_in =
    ap₂ differ (after_spot d u v e.a d_is v_in) (after_spot d u v e.b d_is v_in)

-- it lies above a side whose value at u is less
pub above_spot : (d u v : Arrow) (l : LineSide) → IsWay d
    → is_above_side l (in_frame d (spot_in d u v)) ≡ is_below (value_on l u) v
above_spot d u v l d_is =
    ap (is_above_side l) (in_frame-spot_from d (point_at u v))
    ∙ above_scaled (dot d d) l (point_at u v) d_is
    ∙ same_tests (is_above_side l (point_at u v)) (is_below (value_on l u) v)
    (λ above. test_less (pos 0) (cross (value_on l u) v) ((above_at l u v).0 above))
    (λ less. (above_at l u v).1 (less_from (pos 0) (cross (value_on l u) v) less))

-- and on one whose value is v
pub on_spot : (d u v : Arrow) (l : LineSide) → IsWay d
    → is_on_side l (in_frame d (spot_in d u v)) ≡ int_eq (cross (value_on l u) v) (pos 0)
on_spot d u v l d_is =
    ap (is_on_side l) (in_frame-spot_from d (point_at u v))
    ∙ on_scaled (dot d d) l (point_at u v) d_is
    ∙ same_tests (is_on_side l (point_at u v)) (int_eq (cross (value_on l u) v) (pos 0))
    (λ on. (Decides-int_eq (cross (value_on l u) v) (pos 0)).1 ((on_at l u v).0 on))
    (λ same. (on_at l u v).1 ((Decides-int_eq (cross (value_on l u) v) (pos 0)).0 same))

-- ---- below, by values

-- at a point: the edge reaches past its abscissa and has a lesser value there
pub below_at_point : (d : Arrow) (p : Spot) (e : Edge) → IsSpot p
    → is_below_at d p e ≡ is_lower_at d (abscissa_in d p) (ordinate_of (in_frame d p)) e
below_at_point d p e p_is =
    ap (λ t. reaches_past d (abscissa_in d p) e && t)
    (same_tests (is_above_side l f) (is_below (value_on l (abscissa_of f)) (ordinate_of f))
    (λ above.
    test_less (pos 0) (cross (value_on l (abscissa_of f)) (ordinate_of f))
    ((above_is l f p_is).0 above))
    (λ less.
    (above_is l f p_is).1
    (less_from (pos 0) (cross (value_on l (abscissa_of f)) (ordinate_of f)) less)))
  where
    l : LineSide
    l = line_over d e

    f : FacePoint
    f = in_frame d p

-- at the point of two numbers: the edge reaches past u and has a value below v there
pub below_by_value : (d u v : Arrow) (e : Edge) → IsWay d → IsRational u → IsRational v
    → is_below_at d (spot_in d u v) e ≡ is_lower_at d u v e
below_by_value d u v e d_is u_in v_in =
    ap₂ (λ s t. s && t) (reaches_past_spot d u v e d_is v_in) (above_spot d u v (line_over d e) d_is)
