-- The point of a level ray at a depth, in the frame whose second coordinate is the position along the
-- ray: it keeps its abscissa and its height, and which edges it lies on or above is told by their values.
use Rattle.std.proofs.Common.{◌≡◌, sym, ap, ap₂, ◌∙◌, arith, ℤ, pos, neg_ℤ, ◌+ℤ◌, ◌-ℤ◌, ◌*ℤ◌}
use Rattle.std.proofs.Common.{◌<ℤ◌, ◌&&◌, int_lt, List}
use Rattle.std.proofs.lemmas.Int.{ints}
use Rattle.theory_numbers.specs.Arrows.{Arrow, arrow, dot}
use Rattle.theory_numbers.specs.Rationals.{IsRational}
use Rattle.theory_numbers.proofs.Multiples.{order_of_multiples}
use Rattle.theory_numbers.proofs.Products.{positive_product}
use Rattle.theory_numbers.proofs.Shapes.{var, num, plus, minus, negated, times, equal, dot_by}
use Rattle.theory_cuttings.specs.Changes.{moved_by}
use Rattle.sb_fraction.specs.declared.point.Point.{Point}
use Rattle.sb_fraction.specs.Spots.{Spot, spot, IsSpot, inner}
use Rattle.sb_fraction.specs.Edges.{Edge, is_on}
use Rattle.sb_fraction.specs.Lines.{flat}
use Rattle.theory_plans.specs.Inside.{is_in_plan}
use Rattle.sb_model.specs.Solids.{is_between_heights}
use Rattle.sb_model.specs.Passages.{ray_from, at_depth}
use Rattle.theory_parity.specs.Below.{down_from, abscissa_in, spot_in}
use Rattle.theory_sight.specs.Crossings.{StartsAt}

-- the frame of a level ray: its second coordinate is the position along b
abbrev pub frame_of : Arrow → Arrow
frame_of b = down_from b

module _ (b : Arrow) (p : Spot) (x0 : ℤ) (starts : StartsAt (ray_from p (flat b)) x0) where
  -- the length of the ray's step in the plan
  pub unit_is : inner (flat b) (flat b) ≡ dot (frame_of b) (frame_of b)
  unit_is =
      equal
      (plus (plus (times (var b.x) (var b.x)) (times (var b.y) (var b.y))) (times (num 0) (num 0)))
      (dot_by (frame_of b) (frame_of b) (var b.y) (negated (var b.x)) (var b.y) (negated (var b.x)))
      (omega arith)

  -- the abscissa of the ray
  abbrev pub abscissa : Arrow
  abscissa = abscissa_in (frame_of b) p

  -- the point in the frame at this depth
  abbrev pub at_position : Arrow → Spot
  at_position u = spot_in (frame_of b) abscissa (moved_by x0 u)

  start_flat : (p.x *ℤ b.x) +ℤ (p.y *ℤ b.y) ≡ x0 *ℤ p.w
  start_flat = level ((p.x *ℤ b.x) +ℤ (p.y *ℤ b.y)) p.z starts
    where
      level : (k z : ℤ) → k +ℤ (z *ℤ pos 0) ≡ x0 *ℤ p.w → k ≡ x0 *ℤ p.w
      level k z same = omega (arith, ints)

  -- the two are one plan point, as data
  same_x : (u : Arrow) → (at_depth (ray_from p (flat b)) u).x ≡ (at_position u).x
  same_x u =
      equal (plus (times (var p.x) (times (var u.x) (var (inner (flat b) (flat b)))))
      (times (var b.x) (times (var u.y) (var p.w))))
      (plus (times (var p.x) (times (var u.x) (var (inner (flat b) (flat b)))))
      (times (var b.x) (times (var u.y) (var p.w)))) (omega arith)
      ∙ ap (λ k. (p.x *ℤ (u.x *ℤ k)) +ℤ (b.x *ℤ (u.y *ℤ p.w))) unit_sum
      ∙ spread p.x p.y b.x b.y u.x u.y p.w x0 start_flat
      ∙ ap (λ k. ((k *ℤ u.x) *ℤ b.y) -ℤ ((((u.y +ℤ (x0 *ℤ u.x)) *ℤ p.w) *ℤ neg_ℤ b.x))) (sym across)
    where
      unit_sum : inner (flat b) (flat b) ≡ (b.x *ℤ b.x) +ℤ (b.y *ℤ b.y)
      unit_sum =
          equal
          (plus (plus (times (var b.x) (var b.x)) (times (var b.y) (var b.y)))
          (times (num 0) (num 0)))
          (plus (times (var b.x) (var b.x)) (times (var b.y) (var b.y))) (omega arith)

      across : dot (frame_of b) (arrow p.x p.y) ≡ (b.y *ℤ p.x) -ℤ (b.x *ℤ p.y)
      across =
          equal
          (dot_by (frame_of b) (arrow p.x p.y) (var b.y) (negated (var b.x)) (var p.x) (var p.y))
          (minus (times (var b.y) (var p.x)) (times (var b.x) (var p.y))) (omega arith)

      spread : (px py bx by ux uy w x : ℤ) → (px *ℤ bx) +ℤ (py *ℤ by) ≡ x *ℤ w
          → (px *ℤ (ux *ℤ ((bx *ℤ bx) +ℤ (by *ℤ by)))) +ℤ (bx *ℤ (uy *ℤ w))
          ≡ ((((by *ℤ px) -ℤ (bx *ℤ py)) *ℤ ux) *ℤ by)
          -ℤ (((uy +ℤ (x *ℤ ux)) *ℤ w) *ℤ neg_ℤ bx)
      spread px py bx by ux uy w x same =
          equal
          (plus
          (times (var px)
          (times (var ux) (plus (times (var bx) (var bx)) (times (var by) (var by)))))
          (times (var bx) (times (var uy) (var w))))
          (plus
          (plus
          (times
          (times (minus (times (var by) (var px)) (times (var bx) (var py))) (var ux)) (var by))
          (times (times (var bx) (var ux))
          (plus (times (var px) (var bx)) (times (var py) (var by)))))
          (times (var bx) (times (var uy) (var w)))) (omega arith)
          ∙ ap
          (λ k.
          (((((by *ℤ px) -ℤ (bx *ℤ py)) *ℤ ux) *ℤ by) +ℤ ((bx *ℤ ux) *ℤ k))
          +ℤ (bx *ℤ (uy *ℤ w))) same
          ∙ equal
          (plus
          (plus
          (times
          (times (minus (times (var by) (var px)) (times (var bx) (var py))) (var ux)) (var by))
          (times (times (var bx) (var ux)) (times (var x) (var w))))
          (times (var bx) (times (var uy) (var w))))
          (minus
          (times
          (times (minus (times (var by) (var px)) (times (var bx) (var py))) (var ux)) (var by))
          (times (times (plus (var uy) (times (var x) (var ux))) (var w)) (negated (var bx))))
          (omega arith)

  same_y : (u : Arrow) → (at_depth (ray_from p (flat b)) u).y ≡ (at_position u).y
  same_y u =
      ap (λ k. (p.y *ℤ (u.x *ℤ k)) +ℤ (b.y *ℤ (u.y *ℤ p.w))) unit_sum
      ∙ spread p.x p.y b.x b.y u.x u.y p.w x0 start_flat
      ∙ ap (λ k. ((k *ℤ u.x) *ℤ neg_ℤ b.x) +ℤ (((u.y +ℤ (x0 *ℤ u.x)) *ℤ p.w) *ℤ b.y)) (sym across)
    where
      unit_sum : inner (flat b) (flat b) ≡ (b.x *ℤ b.x) +ℤ (b.y *ℤ b.y)
      unit_sum =
          equal
          (plus (plus (times (var b.x) (var b.x)) (times (var b.y) (var b.y)))
          (times (num 0) (num 0)))
          (plus (times (var b.x) (var b.x)) (times (var b.y) (var b.y))) (omega arith)

      across : dot (frame_of b) (arrow p.x p.y) ≡ (b.y *ℤ p.x) -ℤ (b.x *ℤ p.y)
      across =
          equal
          (dot_by (frame_of b) (arrow p.x p.y) (var b.y) (negated (var b.x)) (var p.x) (var p.y))
          (minus (times (var b.y) (var p.x)) (times (var b.x) (var p.y))) (omega arith)

      spread : (px py bx by ux uy w x : ℤ) → (px *ℤ bx) +ℤ (py *ℤ by) ≡ x *ℤ w
          → (py *ℤ (ux *ℤ ((bx *ℤ bx) +ℤ (by *ℤ by)))) +ℤ (by *ℤ (uy *ℤ w))
          ≡ ((((by *ℤ px) -ℤ (bx *ℤ py)) *ℤ ux) *ℤ neg_ℤ bx)
          +ℤ (((uy +ℤ (x *ℤ ux)) *ℤ w) *ℤ by)
      spread px py bx by ux uy w x same =
          equal
          (plus
          (times (var py)
          (times (var ux) (plus (times (var bx) (var bx)) (times (var by) (var by)))))
          (times (var by) (times (var uy) (var w))))
          (plus
          (plus
          (times
          (times (minus (times (var by) (var px)) (times (var bx) (var py))) (var ux))
          (negated (var bx)))
          (times (times (var by) (var ux))
          (plus (times (var px) (var bx)) (times (var py) (var by)))))
          (times (var by) (times (var uy) (var w)))) (omega arith)
          ∙ ap
          (λ k.
          (((((by *ℤ px) -ℤ (bx *ℤ py)) *ℤ ux) *ℤ neg_ℤ bx) +ℤ ((by *ℤ ux) *ℤ k))
          +ℤ (by *ℤ (uy *ℤ w))) same
          ∙ equal
          (plus
          (plus
          (times
          (times (minus (times (var by) (var px)) (times (var bx) (var py))) (var ux))
          (negated (var bx)))
          (times (times (var by) (var ux)) (times (var x) (var w))))
          (times (var by) (times (var uy) (var w))))
          (plus
          (times
          (times (minus (times (var by) (var px)) (times (var bx) (var py))) (var ux))
          (negated (var bx)))
          (times (times (plus (var uy) (times (var x) (var ux))) (var w)) (var by)))
          (omega arith)

  same_w : (u : Arrow) → (at_depth (ray_from p (flat b)) u).w ≡ (at_position u).w
  same_w u =
      ap (λ k. p.w *ℤ (u.x *ℤ k)) unit_is
      ∙ equal (times (var p.w) (times (var u.x) (var (dot (frame_of b) (frame_of b)))))
      (times (var (dot (frame_of b) (frame_of b))) (times (var p.w) (var u.x))) (omega arith)

  -- what is asked of a point in plan is answered alike
  plan_answers : {X : Type 0} (f : ℤ → ℤ → ℤ → X) (u : Arrow)
      → f (at_depth (ray_from p (flat b)) u).x (at_depth (ray_from p (flat b)) u).y
      (at_depth (ray_from p (flat b)) u).w
      ≡ f (at_position u).x (at_position u).y (at_position u).w
  plan_answers f u = λ i. f (same_x u i) (same_y u i) (same_w u i)

  -- it lies inside the same plans
  pub inside_at : (loops : List (List Point)) (u : Arrow)
      → is_in_plan loops (at_depth (ray_from p (flat b)) u) ≡ is_in_plan loops (at_position u)
  inside_at loops u = plan_answers (λ x y w. is_in_plan loops (spot x y (pos 0) w)) u

  -- and on the same edges
  pub on_at : (e : Edge) (u : Arrow)
      → is_on (at_depth (ray_from p (flat b)) u) e ≡ is_on (at_position u) e
  on_at e u = plan_answers (λ x y w. is_on (spot x y (pos 0) w) e) u

  -- at the height of p
  pub height_at : IsSpot p → pos 0 <ℤ inner (flat b) (flat b) → (u : Arrow) → IsRational u
      → (z0 z1 : ℤ)
      → is_between_heights z0 z1 (at_depth (ray_from p (flat b)) u) ≡ is_between_heights z0 z1 p
  height_at p_is some u u_in z0 z1 = ap₂ (λ s t. s && t) (low z0) (high z1)
    where
      k : ℤ
      k = u.x *ℤ inner (flat b) (flat b)

      k_in : pos 0 <ℤ k
      k_in = positive_product u.x (inner (flat b) (flat b)) u_in some

      height : (p.z *ℤ k) +ℤ (pos 0 *ℤ (u.y *ℤ p.w)) ≡ k *ℤ p.z
      height =
          equal
          (plus (times (var p.z) (var k)) (times (num 0) (times (var u.y) (var p.w))))
          (times (var k) (var p.z)) (omega arith)

      scaled : (z : ℤ) → z *ℤ (p.w *ℤ k) ≡ k *ℤ (z *ℤ p.w)
      scaled z =
          equal (times (var z) (times (var p.w) (var k))) (times (var k) (times (var z) (var p.w)))
          (omega arith)

      low : (z : ℤ)
          → int_lt (z *ℤ (p.w *ℤ k)) ((p.z *ℤ k) +ℤ (pos 0 *ℤ (u.y *ℤ p.w)))
          ≡ int_lt (z *ℤ p.w) p.z
      low z = ap₂ int_lt (scaled z) height ∙ order_of_multiples k (z *ℤ p.w) p.z k_in

      high : (z : ℤ)
          → int_lt ((p.z *ℤ k) +ℤ (pos 0 *ℤ (u.y *ℤ p.w))) (z *ℤ (p.w *ℤ k))
          ≡ int_lt p.z (z *ℤ p.w)
      high z = ap₂ int_lt height (scaled z) ∙ order_of_multiples k p.z (z *ℤ p.w) k_in

  -- so it lies under the ground where p does
  pub ground_at : IsSpot p → pos 0 <ℤ inner (flat b) (flat b) → (u : Arrow) → IsRational u
      → (z : ℤ)
      → int_lt (at_depth (ray_from p (flat b)) u).z (z *ℤ (at_depth (ray_from p (flat b)) u).w)
      ≡ int_lt p.z (z *ℤ p.w)
  ground_at p_is some u u_in z =
      ap₂ int_lt height scaled ∙ order_of_multiples k p.z (z *ℤ p.w) k_in
    where
      k : ℤ
      k = u.x *ℤ inner (flat b) (flat b)

      k_in : pos 0 <ℤ k
      k_in = positive_product u.x (inner (flat b) (flat b)) u_in some

      height : (p.z *ℤ k) +ℤ (pos 0 *ℤ (u.y *ℤ p.w)) ≡ k *ℤ p.z
      height =
          equal
          (plus (times (var p.z) (var k)) (times (num 0) (times (var u.y) (var p.w))))
          (times (var k) (var p.z)) (omega arith)

      scaled : z *ℤ (p.w *ℤ k) ≡ k *ℤ (z *ℤ p.w)
      scaled =
          equal (times (var z) (times (var p.w) (var k))) (times (var k) (times (var z) (var p.w)))
          (omega arith)
