-- The sides of a box: which points lie on them, and that their rays run outside.
use Rattle.std.proofs.Common.{◌≡◌, refl, ◌∙◌, arith, ℕ, ℤ, pos, negsuc, ◌+ℤ◌, ◌-ℤ◌, ◌*ℤ◌, ◌<ℤ◌}
use Rattle.std.proofs.Common.{◌≤ℤ◌, Bool, true, false, ◌||◌, [], ◌∷◌, int_lt}
use Rattle.std.specs.List.{list_any}
use Rattle.std.proofs.lemmas.Int.{ints, by_lt_z}
use Rattle.std.proofs.lemmas.Bool.{and_left, and_right, or_parts}
use Rattle.std.proofs.lemmas.Bool.Decides.{Decides-int_eq}
use Rattle.theory_numbers.specs.Arrows.{Arrow, cross}
use Rattle.theory_numbers.specs.Rationals.{IsRational, IsBelow}
use Rattle.theory_numbers.proofs.Signs.{test_not_less}
use Rattle.theory_numbers.proofs.Shapes.{var, num, minus, plus, times, negated, equal}
use Rattle.theory_numbers.proofs.Products.{positive_product, scale_less}
use Rattle.theory_numbers.proofs.Ring.{mul_comm}
use Rattle.theory_cuttings.specs.Passages.{ray_start}
use Rattle.sb_fraction.specs.Spots.{Spot, IsSpot, Vector, vector, along, reading, times_w}
use Rattle.theory_plans.specs.Inside.{is_in_plan}
use Rattle.sb_fraction.specs.Edges.{Edge, edge, is_on}
use Rattle.sb_model.specs.PlanEdges.{is_abscissa, plan_edges}
use Rattle.sb_fraction.specs.Crossings.{ends_over, cross_over}
use Rattle.sb_model.specs.Surfaces.Faces.{Surface, side_over, is_in_plane}
use Rattle.sb_fraction.specs.Directions.{axis_x, axis_y, axis_z}
use Rattle.theory_plans.specs.Rectangles.{corner, rectangle, is_between_xs, is_between_ys}
use Rattle.theory_plans.proofs.InsideRectangle.{inside_rectangle}
use Rattle.theory_plans.proofs.Edges.DirectionsAlongAxes.{IsHeaded, headed_east, headed_west}
use Rattle.theory_plans.proofs.Edges.DirectionsAlongAxes.{headed_north, headed_south}
use Rattle.theory_plans.proofs.Edges.OnEdgesAlongAxes.{AreAbout, about_rising, about_turned}
use Rattle.theory_plans.proofs.Edges.OnEdgesAlongAxes.{about_between, on_edge_along_x, edge_along_x_on}
use Rattle.theory_plans.proofs.Edges.OnEdgesAlongAxes.{on_edge_along_y, edge_along_y_on, no_end_along_x}
use Rattle.theory_plans.proofs.Edges.OnEdgesAlongAxes.{no_end_along_y}
use Rattle.sb_box.specs.declared.extent.Extent.{Extent}
use Rattle.sb_box.proofs.BoxLabels.{Besides, box_model}

-- the coordinates of a box rise
pub record IsRising (e : Extent) : Type 0 where
  pub x : e.x0 <ℤ e.x1
  pub y : e.y0 <ℤ e.y1
  pub z : e.z0 <ℤ e.z1

-- what is known of one side: it lies over `low` to `high` along its edge
pub record IsBoxSide (k : Besides) (n : ℕ) (e : Extent) (side : Edge) (f : Surface)
    (low high : ℤ) : Type 0 where
  -- the face of the edge
  pub surface : side_over side ≡ f
  -- v is z
  pub up_is : f.up ≡ axis_z
  -- a point of the edge off the abscissae lies strictly between its ends
  pub within : (p : Spot) → IsSpot p → is_on p side ≡ true
      → is_abscissa (box_model k n e) f.across (reading p f.across) ≡ false
      → ((low *ℤ p.w) <ℤ times_w p f.across) × (times_w p f.across <ℤ (high *ℤ p.w))
  -- a point of the plane between them lies on the edge
  pub on_edge : (p : Spot) → is_in_plane f p ≡ true → (low *ℤ p.w) <ℤ times_w p f.across
      → times_w p f.across <ℤ (high *ℤ p.w) → is_on p side ≡ true
  -- the ray from a point of the edge runs outside the plan
  pub outside : (p : Spot) → IsSpot p → is_on p side ≡ true → (u : Arrow) → IsRational u
      → IsBelow ray_start u
      → is_in_plan (rectangle e.x0 e.x1 e.y0 e.y1 ∷ []) (along p f.normal u) ≡ false
  -- and is level
  pub ahead : (p : Spot) → IsSpot p → (u : Arrow) → IsRational u → IsSpot (along p f.normal u)
  pub same_height : (p : Spot) → (u : Arrow) → (along p f.normal u).z ≡ p.z *ℤ u.x

abbrev surface_with : Edge → Vector → Vector → Surface
surface_with e d n = record {
  across = d;
  up = axis_z;
  normal = n;
  position = (e.a.x *ℤ n.x) +ℤ (e.a.y *ℤ n.y);
}

surface_is : (e : Edge) (b : Bool) (d n : Vector) → IsHeaded e b d n
    → side_over e ≡ surface_with e d n
surface_is e b d n h = rw (h.direction_is, h.normal_is) refl

-- ---- readings

-- u of a side along x is x
pub reads_x : (p : Spot) → times_w p axis_x ≡ p.x
reads_x p = three p.x p.y p.z
  where
    three : (x y z : ℤ) → ((x *ℤ pos 1) +ℤ (y *ℤ pos 0)) +ℤ (z *ℤ pos 0) ≡ x
    three x y z = omega (arith, ints)

-- u of a side along y is y
pub reads_y : (p : Spot) → times_w p axis_y ≡ p.y
reads_y p = three p.x p.y p.z
  where
    three : (x y z : ℤ) → ((x *ℤ pos 0) +ℤ (y *ℤ pos 1)) +ℤ (z *ℤ pos 0) ≡ y
    three x y z = omega (arith, ints)

-- v of a side is z
pub reads_z : (p : Spot) → times_w p axis_z ≡ p.z
reads_z p = three p.x p.y p.z
  where
    three : (x y z : ℤ) → ((x *ℤ pos 0) +ℤ (y *ℤ pos 0)) +ℤ (z *ℤ pos 1) ≡ z
    three x y z = omega (arith, ints)

-- depth is above 0
pub deep : (u : Arrow) → IsBelow ray_start u → pos 0 <ℤ u.y
unfolding cross
deep u after = later u.x u.y after
  where
    later : (d n : ℤ) → pos 0 <ℤ ((pos 1 *ℤ n) -ℤ (pos 0 *ℤ d)) → pos 0 <ℤ n
    later d n h = omega (arith, ints)

-- ---- strictly between the ends

strict : (a b z : ℤ) → a ≤ℤ z → z ≤ℤ b → (z ≡ a → ⊥) → (z ≡ b → ⊥) → (a <ℤ z) × (z <ℤ b)
strict a b z left right not_left not_right = (
  by_lt_z a z (λ h. h) (λ h. absurd (not_left (omega (arith, ints)))),
  by_lt_z z b (λ h. h) (λ h. absurd (not_right (omega (arith, ints)))),
)

-- no end of the first and the second edge has this abscissa
no_ends : (k : Besides) (n : ℕ) (e : Extent) (d : Vector) (u : Arrow)
    → is_abscissa (box_model k n e) d u ≡ false
    → (ends_over d u (edge (corner e.x0 e.y0) (corner e.x1 e.y0)) ≡ false)
    × (ends_over d u (edge (corner e.x1 e.y0) (corner e.x1 e.y1)) ≡ false)
no_ends k n e d u none =
    let m = box_model k n e in
    let first = ends_over d u (edge (corner e.x0 e.y0) (corner e.x1 e.y0)) in
    let second = ends_over d u (edge (corner e.x1 e.y0) (corner e.x1 e.y1)) in
    let third = ends_over d u (edge (corner e.x1 e.y1) (corner e.x0 e.y1)) in
    let fourth = ends_over d u (edge (corner e.x0 e.y1) (corner e.x0 e.y0)) in
    let ends = or_parts (list_any (λ q. ends_over d u q.edge) (plan_edges m))
    (list_any (λ q. list_any (λ r. cross_over d u q.edge r.edge) (plan_edges m)) (plan_edges m))
    none in
    let parts = or_parts first (second || (third || (fourth || false))) ends.0 in
    (parts.0, (or_parts second (third || (fourth || false)) parts.1).0)

scaled_less : (a b w : ℤ) → a <ℤ b → pos 0 <ℤ w → (a *ℤ w) <ℤ (b *ℤ w)
scaled_less a b w less positive =
    let h = scale_less w a b positive less in
    let f = mul_comm w a in
    let g = mul_comm w b in
    omega (arith, ints)

within_xs : (k : Besides) (n : ℕ) (e : Extent) → IsRising e → (p : Spot) → IsSpot p
    → AreAbout (e.x0 *ℤ p.w) (e.x1 *ℤ p.w) p.x
    → is_abscissa (box_model k n e) axis_x (reading p axis_x) ≡ false
    → ((e.x0 *ℤ p.w) <ℤ times_w p axis_x) × (times_w p axis_x <ℤ (e.x1 *ℤ p.w))
within_xs k n e rising p positive about none =
    let bounds = about_rising (e.x0 *ℤ p.w) (e.x1 *ℤ p.w) p.x
    (scaled_less e.x0 e.x1 p.w rising.x positive) about in
    let same = reads_x p in
    let ends = no_end_along_x (edge (corner e.x0 e.y0) (corner e.x1 e.y0)) (times_w p axis_x) p.w
    (no_ends k n e axis_x (reading p axis_x) none).0 in
    strict (e.x0 *ℤ p.w) (e.x1 *ℤ p.w) (times_w p axis_x) (rw same bounds.0)
    (rw same bounds.1) ends.0 ends.1

within_ys : (k : Besides) (n : ℕ) (e : Extent) → IsRising e → (p : Spot) → IsSpot p
    → AreAbout (e.y0 *ℤ p.w) (e.y1 *ℤ p.w) p.y
    → is_abscissa (box_model k n e) axis_y (reading p axis_y) ≡ false
    → ((e.y0 *ℤ p.w) <ℤ times_w p axis_y) × (times_w p axis_y <ℤ (e.y1 *ℤ p.w))
within_ys k n e rising p positive about none =
    let bounds = about_rising (e.y0 *ℤ p.w) (e.y1 *ℤ p.w) p.y
    (scaled_less e.y0 e.y1 p.w rising.y positive) about in
    let same = reads_y p in
    let ends = no_end_along_y (edge (corner e.x1 e.y0) (corner e.x1 e.y1)) (times_w p axis_y) p.w
    (no_ends k n e axis_y (reading p axis_y) none).1 in
    strict (e.y0 *ℤ p.w) (e.y1 *ℤ p.w) (times_w p axis_y) (rw same bounds.0)
    (rw same bounds.1) ends.0 ends.1

-- ---- in the plane of a side

in_south : (x y z w a c : ℤ)
    → ((x *ℤ pos 0) +ℤ (y *ℤ negsuc 0)) +ℤ (z *ℤ pos 0) ≡ ((a *ℤ pos 0) +ℤ (c *ℤ negsuc 0)) *ℤ w
    → y ≡ c *ℤ w
in_south x y z w a c e = let f = turned a c w in omega (arith, ints)
  where
    turned : (a c w : ℤ) → pos 0 -ℤ (((a *ℤ pos 0) +ℤ (c *ℤ negsuc 0)) *ℤ w) ≡ c *ℤ w
    turned a c w =
        equal (minus (num 0) (times (plus (times (var a) (num 0)) (times (var c) (negated (num 1))))
        (var w)))
        (times (var c) (var w)) (omega arith)

in_north : (x y z w a c : ℤ)
    → ((x *ℤ pos 0) +ℤ (y *ℤ pos 1)) +ℤ (z *ℤ pos 0) ≡ ((a *ℤ pos 0) +ℤ (c *ℤ pos 1)) *ℤ w
    → y ≡ c *ℤ w
in_north x y z w a c e = let f = turned a c w in omega (arith, ints)
  where
    turned : (a c w : ℤ) → ((a *ℤ pos 0) +ℤ (c *ℤ pos 1)) *ℤ w ≡ c *ℤ w
    turned a c w =
        equal (times (plus (times (var a) (num 0)) (times (var c) (num 1))) (var w))
        (times (var c) (var w)) (omega arith)

in_west : (x y z w a c : ℤ)
    → ((x *ℤ negsuc 0) +ℤ (y *ℤ pos 0)) +ℤ (z *ℤ pos 0) ≡ ((a *ℤ negsuc 0) +ℤ (c *ℤ pos 0)) *ℤ w
    → x ≡ a *ℤ w
in_west x y z w a c e = let f = turned a c w in omega (arith, ints)
  where
    turned : (a c w : ℤ) → pos 0 -ℤ (((a *ℤ negsuc 0) +ℤ (c *ℤ pos 0)) *ℤ w) ≡ a *ℤ w
    turned a c w =
        equal (minus (num 0) (times (plus (times (var a) (negated (num 1))) (times (var c) (num 0)))
        (var w)))
        (times (var a) (var w)) (omega arith)

in_east : (x y z w a c : ℤ)
    → ((x *ℤ pos 1) +ℤ (y *ℤ pos 0)) +ℤ (z *ℤ pos 0) ≡ ((a *ℤ pos 1) +ℤ (c *ℤ pos 0)) *ℤ w
    → x ≡ a *ℤ w
in_east x y z w a c e = let f = turned a c w in omega (arith, ints)
  where
    turned : (a c w : ℤ) → ((a *ℤ pos 1) +ℤ (c *ℤ pos 0)) *ℤ w ≡ a *ℤ w
    turned a c w =
        equal (times (plus (times (var a) (num 1)) (times (var c) (num 0))) (var w))
        (times (var a) (var w)) (omega arith)

-- ---- along the ray

-- a coordinate c that falls along the ray lies below the side's
pub falls : (c z w d n : ℤ) → z ≡ c *ℤ w → pos 0 <ℤ w → pos 0 <ℤ n
    → ((z *ℤ (d *ℤ pos 1)) +ℤ (negsuc 0 *ℤ (n *ℤ w))) ≤ℤ (c *ℤ (w *ℤ (d *ℤ pos 1)))
falls c z w d n at positive ahead =
    let gap = positive_product n w ahead positive in
    let f = same c w d n in
    rw at (omega (arith, ints))
  where
    same : (c w d n : ℤ) → (c *ℤ (w *ℤ (d *ℤ pos 1)))
        -ℤ (((c *ℤ w) *ℤ (d *ℤ pos 1)) +ℤ (negsuc 0 *ℤ (n *ℤ w))) ≡ n *ℤ w
    same c w d n =
        equal
        (minus (times (var c) (times (var w) (times (var d) (num 1))))
        (plus (times (times (var c) (var w)) (times (var d) (num 1)))
        (times (negated (num 1)) (times (var n) (var w)))))
        (times (var n) (var w)) (omega arith)

-- one that rises lies above it
pub rises : (c z w d n : ℤ) → z ≡ c *ℤ w → pos 0 <ℤ w → pos 0 <ℤ n
    → (c *ℤ (w *ℤ (d *ℤ pos 1))) ≤ℤ ((z *ℤ (d *ℤ pos 1)) +ℤ (pos 1 *ℤ (n *ℤ w)))
rises c z w d n at positive ahead =
    let gap = positive_product n w ahead positive in
    let f = same c w d n in
    rw at (omega (arith, ints))
  where
    same : (c w d n : ℤ) → (((c *ℤ w) *ℤ (d *ℤ pos 1)) +ℤ (pos 1 *ℤ (n *ℤ w)))
        -ℤ (c *ℤ (w *ℤ (d *ℤ pos 1))) ≡ n *ℤ w
    same c w d n =
        equal
        (minus (plus (times (times (var c) (var w)) (times (var d) (num 1)))
        (times (num 1) (times (var n) (var w))))
        (times (var c) (times (var w) (times (var d) (num 1)))))
        (times (var n) (var w)) (omega arith)

level_ray : (z d n w : ℤ) → (z *ℤ (d *ℤ pos 1)) +ℤ (pos 0 *ℤ (n *ℤ w)) ≡ z *ℤ d
level_ray z d n w =
    equal (plus (times (var z) (times (var d) (num 1))) (times (num 0) (times (var n) (var w))))
    (times (var z) (var d)) (omega arith)

-- the points of a ray have a positive denominator
pub ray_ahead : (w d : ℤ) → pos 0 <ℤ w → pos 0 <ℤ d → pos 0 <ℤ (w *ℤ (d *ℤ pos 1))
ray_ahead w d positive deep = positive_product w (d *ℤ pos 1) positive (omega (arith, ints))

-- outside by one coordinate
low_x : (e : Extent) → IsRising e → (q : Spot) → IsSpot q → q.x ≤ℤ (e.x0 *ℤ q.w)
    → is_in_plan (rectangle e.x0 e.x1 e.y0 e.y1 ∷ []) q ≡ false
low_x e rising q positive out =
    inside_rectangle e.x0 e.x1 e.y0 e.y1 q rising.x rising.y positive
    ∙ and_left (is_between_xs e.x0 e.x1 q) (is_between_ys e.y0 e.y1 q)
    (and_left (int_lt (e.x0 *ℤ q.w) q.x) (int_lt q.x (e.x1 *ℤ q.w))
    (test_not_less (e.x0 *ℤ q.w) q.x out))

high_x : (e : Extent) → IsRising e → (q : Spot) → IsSpot q → (e.x1 *ℤ q.w) ≤ℤ q.x
    → is_in_plan (rectangle e.x0 e.x1 e.y0 e.y1 ∷ []) q ≡ false
high_x e rising q positive out =
    inside_rectangle e.x0 e.x1 e.y0 e.y1 q rising.x rising.y positive
    ∙ and_left (is_between_xs e.x0 e.x1 q) (is_between_ys e.y0 e.y1 q)
    (and_right (int_lt (e.x0 *ℤ q.w) q.x) (int_lt q.x (e.x1 *ℤ q.w))
    (test_not_less q.x (e.x1 *ℤ q.w) out))

low_y : (e : Extent) → IsRising e → (q : Spot) → IsSpot q → q.y ≤ℤ (e.y0 *ℤ q.w)
    → is_in_plan (rectangle e.x0 e.x1 e.y0 e.y1 ∷ []) q ≡ false
low_y e rising q positive out =
    inside_rectangle e.x0 e.x1 e.y0 e.y1 q rising.x rising.y positive
    ∙ and_right (is_between_xs e.x0 e.x1 q) (is_between_ys e.y0 e.y1 q)
    (and_left (int_lt (e.y0 *ℤ q.w) q.y) (int_lt q.y (e.y1 *ℤ q.w))
    (test_not_less (e.y0 *ℤ q.w) q.y out))

high_y : (e : Extent) → IsRising e → (q : Spot) → IsSpot q → (e.y1 *ℤ q.w) ≤ℤ q.y
    → is_in_plan (rectangle e.x0 e.x1 e.y0 e.y1 ∷ []) q ≡ false
high_y e rising q positive out =
    inside_rectangle e.x0 e.x1 e.y0 e.y1 q rising.x rising.y positive
    ∙ and_right (is_between_xs e.x0 e.x1 q) (is_between_ys e.y0 e.y1 q)
    (and_right (int_lt (e.y0 *ℤ q.w) q.y) (int_lt q.y (e.y1 *ℤ q.w))
    (test_not_less q.y (e.y1 *ℤ q.w) out))

not_equal : (a b : ℤ) → a <ℤ b → a ≡ b → ⊥
not_equal a b less same = omega (arith, ints)

not_equal_back : (a b : ℤ) → a <ℤ b → b ≡ a → ⊥
not_equal_back a b less same = omega (arith, ints)

-- ---- the four sides

-- along x at the least y
pub first_side : (k : Besides) (n : ℕ) (e : Extent) → IsRising e
    → IsBoxSide k n e (edge (corner e.x0 e.y0) (corner e.x1 e.y0))
    (surface_with (edge (corner e.x0 e.y0) (corner e.x1 e.y0)) axis_x
    (vector (pos 0) (negsuc 0) (pos 0))) e.x0 e.x1
first_side k n e rising = record {
  surface = surface_is _ _ _ _ (headed_east e.x0 e.x1 e.y0 rising.x);
  up_is = refl;
  within = λ p positive on none.
      within_xs k n e rising p positive
      (on_edge_along_x e.x0 e.x1 e.y0 p positive (not_equal e.x0 e.x1 rising.x) on).1 none;
  on_edge = λ p plane left right.
      edge_along_x_on e.x0 e.x1 e.y0 p
      (in_south p.x p.y p.z p.w e.x0 e.y0 ((Decides-int_eq _ _).0 plane))
      (about_between (e.x0 *ℤ p.w) (e.x1 *ℤ p.w) p.x (rw (reads_x p) at left)
      (rw (reads_x p) at right));
  outside = λ p positive on u rational after.
      low_y e rising (along p (vector (pos 0) (negsuc 0) (pos 0)) u)
      (ray_ahead p.w u.x positive rational)
      (falls e.y0 p.y p.w u.x u.y
      (on_edge_along_x e.x0 e.x1 e.y0 p positive (not_equal e.x0 e.x1 rising.x) on).0 positive
      (deep u after));
  ahead = λ p positive u rational. ray_ahead p.w u.x positive rational;
  same_height = λ p u. level_ray p.z u.x u.y p.w;
}

-- along y at the greatest x
pub second_side : (k : Besides) (n : ℕ) (e : Extent) → IsRising e
    → IsBoxSide k n e (edge (corner e.x1 e.y0) (corner e.x1 e.y1))
    (surface_with (edge (corner e.x1 e.y0) (corner e.x1 e.y1)) axis_y
    (vector (pos 1) (pos 0) (pos 0))) e.y0 e.y1
second_side k n e rising = record {
  surface = surface_is _ _ _ _ (headed_north e.x1 e.y0 e.y1 rising.y);
  up_is = refl;
  within = λ p positive on none.
      within_ys k n e rising p positive
      (on_edge_along_y e.x1 e.y0 e.y1 p positive (not_equal e.y0 e.y1 rising.y) on).1 none;
  on_edge = λ p plane left right.
      edge_along_y_on e.x1 e.y0 e.y1 p
      (in_east p.x p.y p.z p.w e.x1 e.y0 ((Decides-int_eq _ _).0 plane))
      (about_between (e.y0 *ℤ p.w) (e.y1 *ℤ p.w) p.y (rw (reads_y p) at left)
      (rw (reads_y p) at right));
  outside = λ p positive on u rational after.
      high_x e rising (along p (vector (pos 1) (pos 0) (pos 0)) u)
      (ray_ahead p.w u.x positive rational)
      (rises e.x1 p.x p.w u.x u.y
      (on_edge_along_y e.x1 e.y0 e.y1 p positive (not_equal e.y0 e.y1 rising.y) on).0 positive
      (deep u after));
  ahead = λ p positive u rational. ray_ahead p.w u.x positive rational;
  same_height = λ p u. level_ray p.z u.x u.y p.w;
}

-- along x at the greatest y
pub third_side : (k : Besides) (n : ℕ) (e : Extent) → IsRising e
    → IsBoxSide k n e (edge (corner e.x1 e.y1) (corner e.x0 e.y1))
    (surface_with (edge (corner e.x1 e.y1) (corner e.x0 e.y1)) axis_x
    (vector (pos 0) (pos 1) (pos 0))) e.x0 e.x1
third_side k n e rising = record {
  surface = surface_is _ _ _ _ (headed_west e.x1 e.x0 e.y1 rising.x);
  up_is = refl;
  within = λ p positive on none.
      within_xs k n e rising p positive
      (about_turned (e.x1 *ℤ p.w) (e.x0 *ℤ p.w) p.x
      (on_edge_along_x e.x1 e.x0 e.y1 p positive (not_equal_back e.x0 e.x1 rising.x) on).1) none;
  on_edge = λ p plane left right.
      edge_along_x_on e.x1 e.x0 e.y1 p
      (in_north p.x p.y p.z p.w e.x1 e.y1 ((Decides-int_eq _ _).0 plane))
      (about_turned (e.x0 *ℤ p.w) (e.x1 *ℤ p.w) p.x
      (about_between (e.x0 *ℤ p.w) (e.x1 *ℤ p.w) p.x (rw (reads_x p) at left)
      (rw (reads_x p) at right)));
  outside = λ p positive on u rational after.
      high_y e rising (along p (vector (pos 0) (pos 1) (pos 0)) u)
      (ray_ahead p.w u.x positive rational)
      (rises e.y1 p.y p.w u.x u.y
      (on_edge_along_x e.x1 e.x0 e.y1 p positive (not_equal_back e.x0 e.x1 rising.x) on).0 positive
      (deep u after));
  ahead = λ p positive u rational. ray_ahead p.w u.x positive rational;
  same_height = λ p u. level_ray p.z u.x u.y p.w;
}

-- along y at the least x
pub fourth_side : (k : Besides) (n : ℕ) (e : Extent) → IsRising e
    → IsBoxSide k n e (edge (corner e.x0 e.y1) (corner e.x0 e.y0))
    (surface_with (edge (corner e.x0 e.y1) (corner e.x0 e.y0)) axis_y
    (vector (negsuc 0) (pos 0) (pos 0))) e.y0 e.y1
fourth_side k n e rising = record {
  surface = surface_is _ _ _ _ (headed_south e.x0 e.y1 e.y0 rising.y);
  up_is = refl;
  within = λ p positive on none.
      within_ys k n e rising p positive
      (about_turned (e.y1 *ℤ p.w) (e.y0 *ℤ p.w) p.y
      (on_edge_along_y e.x0 e.y1 e.y0 p positive (not_equal_back e.y0 e.y1 rising.y) on).1) none;
  on_edge = λ p plane left right.
      edge_along_y_on e.x0 e.y1 e.y0 p
      (in_west p.x p.y p.z p.w e.x0 e.y1 ((Decides-int_eq _ _).0 plane))
      (about_turned (e.y0 *ℤ p.w) (e.y1 *ℤ p.w) p.y
      (about_between (e.y0 *ℤ p.w) (e.y1 *ℤ p.w) p.y (rw (reads_y p) at left)
      (rw (reads_y p) at right)));
  outside = λ p positive on u rational after.
      low_x e rising (along p (vector (negsuc 0) (pos 0) (pos 0)) u)
      (ray_ahead p.w u.x positive rational)
      (falls e.x0 p.x p.w u.x u.y
      (on_edge_along_y e.x0 e.y1 e.y0 p positive (not_equal_back e.y0 e.y1 rising.y) on).0 positive
      (deep u after));
  ahead = λ p positive u rational. ray_ahead p.w u.x positive rational;
  same_height = λ p u. level_ray p.z u.x u.y p.w;
}
