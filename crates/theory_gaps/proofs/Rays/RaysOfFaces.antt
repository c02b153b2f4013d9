-- The ray from a plain point of a face begins at the whole position of the face, over a number that is no
-- abscissa of its frame, or on no plan edge.
use Rattle.std.proofs.Common.{◌≡◌, refl, sym, ap, ap₂, ◌∙◌, arith, ◌⊎◌, inl, inr, ℤ, pos, neg_ℤ}
use Rattle.std.proofs.Common.{◌+ℤ◌, ◌-ℤ◌, ◌*ℤ◌, ◌<ℤ◌, Bool, true, false, ◌&&◌, ◌||◌}
use Rattle.std.proofs.Common.{unsigned_abs}
use Rattle.std.proofs.Common.{subst₂}
use Rattle.std.specs.Ordering.{int_eq}
use Rattle.std.specs.List.{list_any}
use Rattle.std.proofs.lemmas.Int.{ints}
use Rattle.std.proofs.lemmas.Bool.{and_parts, false≢true}
use Rattle.std.proofs.lemmas.Bool.Decides.{Decides-int_eq}
use Rattle.theory_numbers.specs.Arrows.{Arrow, arrow, opposite, mirror, cross, dot}
use Rattle.theory_numbers.specs.Divisors.{are_coprime, greatest_divisor, divisor_within}
use Rattle.theory_numbers.specs.Rationals.{rational}
use Rattle.theory_numbers.proofs.Products.{zero_of_positive, positive_square, weak_square}
use Rattle.theory_numbers.proofs.Shapes.{var, num, plus, minus, times, negated, equal, dot_by}
use Rattle.theory_numbers.proofs.Shapes.{cross_by}
use Rattle.theory_numbers.proofs.Signs.{same_equal, equal_or_not}
use Rattle.sb_fraction.specs.declared.point.Point.{Point}
use Rattle.sb_fraction.specs.Spots.{Spot, IsSpot, Vector, vector, inner, times_w, reading}
use Rattle.sb_fraction.specs.Spots as spots
use Rattle.sb_fraction.specs.Edges.{Edge, span_of, turn_at, is_on}
use Rattle.sb_fraction.specs.Crossings.{abscissa_at, cross_at, cross_over, meeting_of}
use Rattle.sb_fraction.specs.Directions.{step, runs_along, direction_of, normal_over}
use Rattle.sb_fraction.specs.Lines.{flat}
use Rattle.theory_plans.proofs.Edges.StepsOfEdges.{IsStep, direction_along, direction_against}
use Rattle.sb_model.specs.Building.{Building}
use Rattle.sb_model.specs.Surfaces.Faces.{side_over}
use Rattle.sb_model.specs.PlanEdges.{PlanEdge, plan_edges, is_abscissa}
use Rattle.sb_model.specs.Passages.{ray_from}
use Rattle.theory_parity.proofs.Rays.InsideByBelow.{turn_by_span}
use Rattle.theory_gaps.proofs.Rays.PointsOnTheRay.{frame_of, abscissa}
use Rattle.std.proofs.Math.Path.{fun_ext}
use Rattle.theory_sight.specs.Crossings.{StartsAt}

-- ---- abscissae along the opposite direction

same_zero : (a b : ℤ) → b ≡ neg_ℤ a → int_eq b (pos 0) ≡ int_eq a (pos 0)
same_zero a b same =
    same_equal b (pos 0) a (pos 0) (λ zero. omega (arith, ints)) (λ zero. omega (arith, ints))

-- an abscissa of a direction is one of the opposite direction with its sign turned
pub abscissa_turned : (m : Building) (d u : Arrow)
    → is_abscissa m (flat (opposite d)) (mirror u) ≡ is_abscissa m (flat d) u
abscissa_turned m d u =
    ap₂ (λ (f : PlanEdge → Bool) (g : PlanEdge → Bool).
    list_any f (plan_edges m) || list_any g (plan_edges m))
    (fun_ext (λ e. ap₂ (λ s t. s || t) (end_turned e.edge.a) (end_turned e.edge.b)))
    (fun_ext (λ e. ap (λ (f : PlanEdge → Bool). list_any f (plan_edges m))
    (fun_ext (λ f. crossing_turned e.edge f.edge))))
  where
    end_turned : (a : Point)
        → int_eq (cross (mirror u) (rational (abscissa_at a (flat (opposite d))) (pos 1))) (pos 0)
        ≡ int_eq (cross u (rational (abscissa_at a (flat d)) (pos 1))) (pos 0)
    end_turned a =
        same_zero (cross u (rational (abscissa_at a (flat d)) (pos 1)))
        (cross (mirror u) (rational (abscissa_at a (flat (opposite d))) (pos 1)))
        (equal
        (cross_by (mirror u) (rational (abscissa_at a (flat (opposite d))) (pos 1)) (var u.x)
        (negated (var u.y)) (num 1)
        (plus (times (var a.x) (negated (var d.x))) (times (var a.y) (negated (var d.y)))))
        (negated
        (cross_by u (rational (abscissa_at a (flat d)) (pos 1)) (var u.x) (var u.y) (num 1)
        (plus (times (var a.x) (var d.x)) (times (var a.y) (var d.y))))) (omega arith))

    reading_turned : (p : Spot)
        → int_eq (cross (mirror u) (reading p (flat (opposite d)))) (pos 0)
        ≡ int_eq (cross u (reading p (flat d))) (pos 0)
    reading_turned p =
        same_zero (cross u (reading p (flat d))) (cross (mirror u) (reading p (flat (opposite d))))
        (equal
        (cross_by (mirror u) (reading p (flat (opposite d))) (var u.x) (negated (var u.y)) (var p.w)
        (plus
        (plus (times (var p.x) (negated (var d.x))) (times (var p.y) (negated (var d.y))))
        (times (var p.z) (num 0))))
        (negated
        (cross_by u (reading p (flat d)) (var u.x) (var u.y) (var p.w)
        (plus (plus (times (var p.x) (var d.x)) (times (var p.y) (var d.y)))
        (times (var p.z) (num 0))))) (omega arith))

    crossing_turned : (e f : Edge)
        → cross_over (flat (opposite d)) (mirror u) e f ≡ cross_over (flat d) u e f
    crossing_turned e f =
        ap (λ b. cross_at (meeting_of e f) e f && b) (reading_turned (meeting_of e f))

-- ---- the ray of a side

-- the outward normal of the side over an edge, in the plan
abbrev pub normal_of : Edge → Arrow
normal_of e = arrow (step e).y (neg_ℤ (step e).x)

pub normal_is : (e : Edge) → normal_over e ≡ flat (normal_of e)
unfolding normal_over
normal_is e = refl

-- zeros have divisors in common
zeros_not_coprime : are_coprime 0 0 ≡ false
unfolding greatest_divisor divisor_within
zeros_not_coprime = refl

module _ (e : Edge) (steps : IsStep e) where
  -- it is not 0
  pub normal_is_some : pos 0 <ℤ inner (flat (normal_of e)) (flat (normal_of e))
  normal_is_some = by (equal_or_not (step e).x (pos 0)) (equal_or_not (step e).y (pos 0))
    where
      square : (x y : ℤ)
          → (((y *ℤ y) +ℤ (neg_ℤ x *ℤ neg_ℤ x)) +ℤ (pos 0 *ℤ pos 0)) ≡ (x *ℤ x) +ℤ (y *ℤ y)
      square x y =
          equal
          (plus (plus (times (var y) (var y)) (times (negated (var x)) (negated (var x))))
          (times (num 0) (num 0)))
          (plus (times (var x) (var x)) (times (var y) (var y))) (omega arith)

      by : ((step e).x ≡ pos 0) ⊎ ((step e).x ≡ pos 0 → ⊥)
          → ((step e).y ≡ pos 0) ⊎ ((step e).y ≡ pos 0 → ⊥)
          → pos 0 <ℤ inner (flat (normal_of e)) (flat (normal_of e))
      by (inr x) y =
          let one = positive_square (step e).x x in
          let other = weak_square (step e).y in
          let whole = square (step e).x (step e).y in
          omega (arith, ints)
      by (inl x) (inr y) =
          let one = weak_square (step e).x in
          let other = positive_square (step e).y y in
          let whole = square (step e).x (step e).y in
          omega (arith, ints)
      by (inl x) (inl y) =
          absurd
          (false≢true
          (sym zeros_not_coprime
          ∙ subst₂ (λ a b. are_coprime (unsigned_abs a) (unsigned_abs b) ≡ true) x y steps.coprime))

  -- from a point of the edge it begins at the position of the side
  pub side_starts : (p : Spot) → IsSpot p → is_on p e ≡ true
      → StartsAt (ray_from p (flat (normal_of e))) ((side_over e).position)
  unfolding normal_over cross
  side_starts p p_is on =
      plane (step e).x (step e).y p.x p.y p.z p.w e.a.x e.a.y
      (zero_of_positive (pos steps.times)
      (((step e).x *ℤ p.y) -ℤ ((step e).y *ℤ p.x)
      -ℤ ((((step e).x *ℤ e.a.y) -ℤ ((step e).y *ℤ e.a.x)) *ℤ p.w)) some times_none)
    where
      some : pos 0 <ℤ pos steps.times
      some = let positive = steps.positive in omega (arith, ints)

      turn : turn_at e p ≡ pos 0
      turn =
          (Decides-int_eq (turn_at e p) (pos 0)).0
          ((and_parts (int_eq (turn_at e p) (pos 0)) _ on).0)

      none : (((span_of e).x *ℤ p.y) -ℤ ((span_of e).y *ℤ p.x))
          -ℤ ((((span_of e).x *ℤ e.a.y) -ℤ ((span_of e).y *ℤ e.a.x)) *ℤ p.w)
          ≡ pos 0
      none = zero_of_positive p.w _ p_is (sym (turn_by_span p e) ∙ turn)

      gathered : (k x y px py ax ay w : ℤ)
          → k *ℤ (((x *ℤ py) -ℤ (y *ℤ px)) -ℤ (((x *ℤ ay) -ℤ (y *ℤ ax)) *ℤ w))
          ≡ (((k *ℤ x) *ℤ py) -ℤ ((k *ℤ y) *ℤ px))
          -ℤ ((((k *ℤ x) *ℤ ay) -ℤ ((k *ℤ y) *ℤ ax)) *ℤ w)
      gathered k x y px py ax ay w =
          equal
          (times (var k)
          (minus (minus (times (var x) (var py)) (times (var y) (var px)))
          (times (minus (times (var x) (var ay)) (times (var y) (var ax))) (var w))))
          (minus
          (minus (times (times (var k) (var x)) (var py)) (times (times (var k) (var y)) (var px)))
          (times
          (minus (times (times (var k) (var x)) (var ay)) (times (times (var k) (var y)) (var ax)))
          (var w))) (omega arith)

      times_none : pos steps.times
          *ℤ (((step e).x *ℤ p.y) -ℤ ((step e).y *ℤ p.x)
          -ℤ ((((step e).x *ℤ e.a.y) -ℤ ((step e).y *ℤ e.a.x)) *ℤ p.w))
          ≡ pos 0
      times_none =
          gathered (pos steps.times) (step e).x (step e).y p.x p.y e.a.x e.a.y p.w
          ∙ ap₂
          (λ x y. ((x *ℤ p.y) -ℤ (y *ℤ p.x)) -ℤ (((x *ℤ e.a.y) -ℤ (y *ℤ e.a.x)) *ℤ p.w))
          (sym steps.x) (sym steps.y)
          ∙ none

      plane : (x y px py pz w ax ay : ℤ)
          → ((x *ℤ py) -ℤ (y *ℤ px)) -ℤ (((x *ℤ ay) -ℤ (y *ℤ ax)) *ℤ w) ≡ pos 0
          → ((px *ℤ y) +ℤ (py *ℤ neg_ℤ x)) +ℤ (pz *ℤ pos 0)
          ≡ ((ax *ℤ y) +ℤ (ay *ℤ neg_ℤ x)) *ℤ w
      plane x y px py pz w ax ay zero =
          let whole =
          equal
          (minus
          (plus (plus (times (var px) (var y)) (times (var py) (negated (var x))))
          (times (var pz) (num 0)))
          (times (plus (times (var ax) (var y)) (times (var ay) (negated (var x)))) (var w)))
          (negated
          (minus (minus (times (var x) (var py)) (times (var y) (var px)))
          (times (minus (times (var x) (var ay)) (times (var y) (var ax))) (var w)))) (omega arith)
          in
          omega (arith, ints)

  -- over a number that is no abscissa of the side's direction
  pub side_has_no_abscissa : (m : Building) (p : Spot)
      → (starts : StartsAt (ray_from p (flat (normal_of e))) ((side_over e).position))
      → is_abscissa m (direction_of e) (reading p (direction_of e)) ≡ false
      → is_abscissa m (flat (frame_of (normal_of e)))
      (abscissa (normal_of e) p ((side_over e).position) starts)
      ≡ false
  side_has_no_abscissa m p starts none = by (runs_along e) refl
    where
      frame_is : flat (frame_of (normal_of e)) ≡ spots.opposite (step e)
      frame_is =
          ap (vector (neg_ℤ (step e).x) (neg_ℤ (step e).y)) (sym (ap neg_ℤ steps.level))

      reads : (d : Arrow) → dot d (arrow p.x p.y) ≡ times_w p (flat d)
      reads d =
          equal (dot_by d (arrow p.x p.y) (var d.x) (var d.y) (var p.x) (var p.y))
          (plus (plus (times (var p.x) (var d.x)) (times (var p.y) (var d.y)))
          (times (var p.z) (num 0))) (omega arith)

      by : (b : Bool) → runs_along e ≡ b
          → is_abscissa m (flat (frame_of (normal_of e)))
          (rational (dot (frame_of (normal_of e)) (arrow p.x p.y)) p.w)
          ≡ false
      by false against =
          ap (λ k. is_abscissa m (flat (frame_of (normal_of e))) (rational k p.w))
          (reads (frame_of (normal_of e)))
          ∙ ap (λ d. is_abscissa m d (rational (times_w p d) p.w))
          (frame_is ∙ sym (direction_against e against))
          ∙ none
      by true along =
          ap (λ k. is_abscissa m (flat (frame_of (normal_of e))) (rational k p.w))
          (turned (step e).x (step e).y)
          ∙ abscissa_turned m (arrow (step e).x (step e).y)
          (rational (dot (arrow (step e).x (step e).y) (arrow p.x p.y)) p.w)
          ∙ ap (λ k. is_abscissa m (flat (arrow (step e).x (step e).y)) (rational k p.w))
          (reads (arrow (step e).x (step e).y))
          ∙ ap (λ d. is_abscissa m d (rational (times_w p d) p.w)) (level ∙ sym (direction_along e along))
          ∙ none
        where
          turned : (x y : ℤ)
              → dot (arrow (neg_ℤ x) (neg_ℤ y)) (arrow p.x p.y) ≡ neg_ℤ (dot (arrow x y) (arrow p.x p.y))
          turned x y =
              equal
              (dot_by (arrow (neg_ℤ x) (neg_ℤ y)) (arrow p.x p.y) (negated (var x)) (negated (var y))
              (var p.x) (var p.y))
              (negated (dot_by (arrow x y) (arrow p.x p.y) (var x) (var y) (var p.x) (var p.y)))
              (omega arith)

          level : flat (arrow (step e).x (step e).y) ≡ step e
          level = ap (vector (step e).x (step e).y) (sym steps.level)
