-- The points of a ray back from a point of another are points of that other one.
use Rattle.std.proofs.Common.{◌≡◌, ap, ap₂, ◌∙◌, arith, ℤ, pos, neg_ℤ, ◌+ℤ◌, ◌-ℤ◌, ◌*ℤ◌}
use Rattle.std.proofs.Common.{◌<ℤ◌, Bool, not, ◌||◌}
use Rattle.std.specs.Ordering.{int_eq}
use Rattle.std.specs.List.{list_all}
use Rattle.std.proofs.lemmas.Int.{ints}
use Rattle.std.proofs.Math.Path.{fun_ext}
use Rattle.theory_numbers.specs.Arrows.{Arrow, arrow, cross}
use Rattle.theory_numbers.specs.Rationals.{rational}
use Rattle.theory_numbers.proofs.Shapes.{var, num, plus, minus, times, negated, equal, cross_by, cross_is}
use Rattle.theory_numbers.proofs.Signs.{same_equal}
use Rattle.sb_fraction.specs.Spots.{Spot, spot, Vector, inner, opposite, along}
use Rattle.sb_fraction.specs.Edges.{Edge, span_of, is_on}
use Rattle.theory_plans.specs.Alike.{scaled}
use Rattle.theory_plans.proofs.PointsAlike.{on_sees_no_factor}
use Rattle.sb_model.specs.Building.{Building}
use Rattle.sb_model.specs.Labels.{label_at}
use Rattle.sb_model.specs.PlanEdges.{PlanEdge, plan_edges}
use Rattle.sb_model.specs.Passages.{Ray, ray_from, at_depth}
use Rattle.sb_model.specs.Walks.{is_across, is_square}
use Rattle.theory_models.proofs.LabelsAlike.{label_sees_no_factor}
use Rattle.theory_sight.specs.Crossings.{label_along}

-- a depth seen from depth k on the way back
abbrev pub back_from : ℤ → Arrow → Arrow
back_from k u = arrow u.x ((k *ℤ u.x) -ℤ u.y)

-- the order of two depths is turned
pub cross-back : (k : ℤ) (u v : Arrow) → cross (back_from k u) (back_from k v) ≡ cross v u
cross-back k u v =
    equal
    (cross_by (back_from k u) (back_from k v) (var u.x)
    (minus (times (var k) (var u.x)) (var u.y)) (var v.x)
    (minus (times (var k) (var v.x)) (var v.y)))
    (cross_is v u) (omega arith)

-- and twice is once
pub back-back : (k : ℤ) (u : Arrow) → back_from k (back_from k u) ≡ u
back-back k u = ap (arrow u.x) (same k u.x u.y)
  where
    same : (k x y : ℤ) → (k *ℤ x) -ℤ ((k *ℤ x) -ℤ y) ≡ y
    same k x y = omega (arith, ints)

-- whole depths
pub back-whole : (k z : ℤ) → back_from k (rational z (pos 1)) ≡ rational (k -ℤ z) (pos 1)
back-whole k z = ap (arrow (pos 1)) (same k z)
  where
    same : (k z : ℤ) → (k *ℤ pos 1) -ℤ z ≡ k -ℤ z
    same k z = omega (arith, ints)

module _ (p : Spot) (n : Vector) (k : ℤ) where
  -- the ray there, and the ray back from depth k
  abbrev pub ray_there : Ray
  ray_there = ray_from p n

  abbrev pub ray_back : Ray
  ray_back = ray_from (along p n (rational k (pos 1))) (opposite n)

  unit-opposite : inner (opposite n) (opposite n) ≡ inner n n
  unit-opposite =
      equal
      (plus
      (plus (times (negated (var n.x)) (negated (var n.x)))
      (times (negated (var n.y)) (negated (var n.y)))) (times (negated (var n.z)) (negated (var n.z))))
      (plus (plus (times (var n.x) (var n.x)) (times (var n.y) (var n.y))) (times (var n.z) (var n.z)))
      (omega arith)

  coordinate : (px nx w unit ux uy : ℤ)
      → (((px *ℤ (pos 1 *ℤ unit)) +ℤ (nx *ℤ (k *ℤ w))) *ℤ (ux *ℤ unit))
      +ℤ (neg_ℤ nx *ℤ (uy *ℤ (w *ℤ (pos 1 *ℤ unit))))
      ≡ unit *ℤ ((px *ℤ (ux *ℤ unit)) +ℤ (nx *ℤ (((k *ℤ ux) -ℤ uy) *ℤ w)))
  coordinate px nx w unit ux uy =
      equal
      (plus
      (times
      (plus (times (var px) (times (num 1) (var unit))) (times (var nx) (times (var k) (var w))))
      (times (var ux) (var unit)))
      (times (negated (var nx)) (times (var uy) (times (var w) (times (num 1) (var unit))))))
      (times (var unit)
      (plus (times (var px) (times (var ux) (var unit)))
      (times (var nx) (times (minus (times (var k) (var ux)) (var uy)) (var w))))) (omega arith)

  denominator : (w unit ux : ℤ)
      → (w *ℤ (pos 1 *ℤ unit)) *ℤ (ux *ℤ unit) ≡ unit *ℤ (w *ℤ (ux *ℤ unit))
  denominator w unit ux =
      equal (times (times (var w) (times (num 1) (var unit))) (times (var ux) (var unit)))
      (times (var unit) (times (var w) (times (var ux) (var unit)))) (omega arith)

  -- the point back at a depth is one on the way there, but for a factor
  back_point : (u : Arrow)
      → at_depth ray_back u ≡ scaled (inner n n) (at_depth ray_there (back_from k u))
  back_point u =
      ap
      (λ unit.
      spot
      ((((p.x *ℤ (pos 1 *ℤ inner n n)) +ℤ (n.x *ℤ (k *ℤ p.w))) *ℤ (u.x *ℤ unit))
      +ℤ (neg_ℤ n.x *ℤ (u.y *ℤ (p.w *ℤ (pos 1 *ℤ inner n n)))))
      ((((p.y *ℤ (pos 1 *ℤ inner n n)) +ℤ (n.y *ℤ (k *ℤ p.w))) *ℤ (u.x *ℤ unit))
      +ℤ (neg_ℤ n.y *ℤ (u.y *ℤ (p.w *ℤ (pos 1 *ℤ inner n n)))))
      ((((p.z *ℤ (pos 1 *ℤ inner n n)) +ℤ (n.z *ℤ (k *ℤ p.w))) *ℤ (u.x *ℤ unit))
      +ℤ (neg_ℤ n.z *ℤ (u.y *ℤ (p.w *ℤ (pos 1 *ℤ inner n n)))))
      ((p.w *ℤ (pos 1 *ℤ inner n n)) *ℤ (u.x *ℤ unit))) unit-opposite
      ∙ (λ i.
      spot (coordinate p.x n.x p.w (inner n n) u.x u.y i) (coordinate p.y n.y p.w (inner n n) u.x u.y i)
      (coordinate p.z n.z p.w (inner n n) u.x u.y i) (denominator p.w (inner n n) u.x i))

  module _ (m : Building) (some : pos 0 <ℤ inner n n) where
    -- it has its label
    pub label_back : (u : Arrow)
        → label_along m ray_back u ≡ label_along m ray_there (back_from k u)
    label_back u =
        ap (label_at m) (back_point u)
        ∙ label_sees_no_factor m (inner n n) (at_depth ray_there (back_from k u)) some

    -- lies on its edges
    pub on_back : (e : Edge) (u : Arrow)
        → is_on (at_depth ray_back u) e ≡ is_on (at_depth ray_there (back_from k u)) e
    on_back e u =
        ap (λ q. is_on q e) (back_point u)
        ∙ on_sees_no_factor e (inner n n) (at_depth ray_there (back_from k u)) some

    across_back : (e : Edge) → is_across (opposite n) e ≡ is_across n e
    across_back e =
        same_equal (((span_of e).x *ℤ neg_ℤ n.x) +ℤ ((span_of e).y *ℤ neg_ℤ n.y)) (pos 0)
        (((span_of e).x *ℤ n.x) +ℤ ((span_of e).y *ℤ n.y)) (pos 0)
        (λ none. let whole = turned (span_of e).x (span_of e).y in omega (arith, ints))
        (λ none. let whole = turned (span_of e).x (span_of e).y in omega (arith, ints))
      where
        turned : (x y : ℤ)
            → (x *ℤ neg_ℤ n.x) +ℤ (y *ℤ neg_ℤ n.y) ≡ neg_ℤ ((x *ℤ n.x) +ℤ (y *ℤ n.y))
        turned x y =
            equal (plus (times (var x) (negated (var n.x))) (times (var y) (negated (var n.y))))
            (negated (plus (times (var x) (var n.x)) (times (var y) (var n.y)))) (omega arith)

    level_back : int_eq (neg_ℤ n.z) (pos 0) ≡ int_eq n.z (pos 0)
    level_back =
        same_equal (neg_ℤ n.z) (pos 0) n.z (pos 0) (λ none. omega (arith, ints))
        (λ none. omega (arith, ints))

    -- and is square on the way back where it is so on the way there
    pub square_back : (u : Arrow)
        → is_square m ray_back (at_depth ray_back u)
        ≡ is_square m ray_there (at_depth ray_there (back_from k u))
    square_back u =
        ap₂ (λ b (f : PlanEdge → Bool). not b || list_all f (plan_edges m)) level_back
        (fun_ext (λ e. ap₂ (λ a b. not a || b) (on_back e.edge u) (across_back e.edge)))
