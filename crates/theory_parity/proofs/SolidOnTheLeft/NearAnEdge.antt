-- Near each point strictly inside an edge of a plan the points left of it lie inside the plan, and
-- those right of it outside.

use Rattle.std.proofs.Common.{◌≡◌, refl, sym, ap, ap₂, ◌∙◌, ◌⊎◌, inl, inr, arith, ℤ, pos, neg_ℤ}
use Rattle.std.proofs.Common.{◌<ℤ◌, ◌+ℤ◌, ◌*ℤ◌, Bool, true, false, not, IsTrue, List}
use Rattle.std.proofs.lemmas.Int.{ints}
use Rattle.std.proofs.lemmas.Bool.{false≢true}
use Rattle.theory_lists.proofs.Passing.{passes_if_all}
use Rattle.theory_lists.specs.Members.{Stands}
use Rattle.theory_lists.specs.Parity.{is_odd_number}
use Rattle.theory_numbers.specs.Arrows.{Arrow, cross, dot, opposite, turned, mirror}
use Rattle.theory_numbers.proofs.Vectors.Arrows.{cross-opposite, cross-turn}
use Rattle.theory_numbers.proofs.Signs.{sign_cases, test_less, test_not_less}
use Rattle.theory_numbers.specs.Tests.{is_positive}
use Rattle.theory_numbers.proofs.Shapes.{var, num, plus, minus, negated, times, equal, cross_by}
use Rattle.theory_numbers.proofs.Shapes.{dot_by, dot_is}
use Rattle.sb_fraction.specs.declared.point.Point.{Point}
use Rattle.sb_fraction.specs.Spots.{Spot, spot, IsSpot}
use Rattle.sb_fraction.specs.Edges.{Edge, span_of, is_within}
use Rattle.theory_plans.specs.LoopEdges.{edges_of}
use Rattle.theory_plans.specs.Inside.{is_in_plan}
use Rattle.theory_plans.specs.Plans.{is_plan, right_of, middle_of, is_solid_left_of}
use Rattle.theory_plans.specs.Rays.{is_struck}
use Rattle.theory_plans.proofs.CommonPointIsCorner.{loops_are_bent}
use Rattle.theory_plans.proofs.Edges.EdgesOfPlans.{plan_is}
use Rattle.theory_parity.specs.Below.{IsWay}
use Rattle.theory_parity.specs.Sides.{AreBentApart, aside, IsClosenessAt}
use Rattle.theory_parity.proofs.SolidOnTheLeft.AlongAnEdge.{along_an_edge}
use Rattle.theory_parity.proofs.SolidOnTheLeft.BesideAnEdge.{own_left, own_right, soon_inside}
use Rattle.theory_parity.proofs.SolidOnTheLeft.EdgesApart.{long_edges, alone_inside, odd_inside}
use Rattle.theory_parity.proofs.SolidOnTheLeft.OneSideALoop.{right_is_right, to_the_right}
use Rattle.theory_parity.proofs.SolidOnTheLeft.OwnPoints.{IsOwn, IsLong, own_from_within, middle_is_own}
use Rattle.theory_parity.proofs.SolidOnTheLeft.RaysFromEdges.{IsAloneAt, right_ray, left_ray}
use Rattle.theory_numbers.proofs.Fractions.Soon.{Soon, soon_both}

-- the loops of a plan are bent, and their edges apart
pub plan_is_bent_apart : (loops : List (List Point)) → IsTrue (is_plan loops) → AreBentApart loops
plan_is_bent_apart loops plan =
    let is = plan_is loops plan in
    record { bent = loops_are_bent loops is.each; apart = is.apart }

-- ---- the ways to the two sides

-- the vector turned to the left lies left of it
turned_is_left : (s : Arrow) → cross s (turned s) ≡ dot s s
turned_is_left s =
    equal (cross_by s (turned s) (var s.x) (var s.y) (negated (var s.y)) (var s.x)) (dot_is s s)
    (omega arith)

-- the way to the right is its opposite
right_is_level : (e : Edge) → cross (right_of e) (turned (span_of e)) ≡ pos 0
right_is_level e =
    equal
    (cross_by (right_of e) (turned (span_of e)) (minus (var e.b.y) (var e.a.y))
    (negated (minus (var e.b.x) (var e.a.x))) (negated (minus (var e.b.y) (var e.a.y)))
    (minus (var e.b.x) (var e.a.x)))
    (num 0) (omega arith)

right_length : (e : Edge) → dot (right_of e) (right_of e) ≡ dot (span_of e) (span_of e)
right_length e =
    equal
    (dot_by (right_of e) (right_of e) (minus (var e.b.y) (var e.a.y))
    (negated (minus (var e.b.x) (var e.a.x))) (minus (var e.b.y) (var e.a.y))
    (negated (minus (var e.b.x) (var e.a.x))))
    (dot_by (span_of e) (span_of e) (minus (var e.b.x) (var e.a.x)) (minus (var e.b.y) (var e.a.y))
    (minus (var e.b.x) (var e.a.x)) (minus (var e.b.y) (var e.a.y)))
    (omega arith)

-- right of m is left of it by a negative number
aside-opposite : (k : Arrow) (m : Spot) (t : Arrow)
    → aside (opposite k) m t ≡ aside k m (mirror t)
aside-opposite k m t =
    ap₂ (λ x y. spot x y (pos 0) (t.x *ℤ m.w)) (by m.x k.x) (by m.y k.y)
  where
    by : (x s : ℤ)
        → (t.x *ℤ x) +ℤ ((t.y *ℤ m.w) *ℤ neg_ℤ s) ≡ (t.x *ℤ x) +ℤ ((neg_ℤ t.y *ℤ m.w) *ℤ s)
    by x s =
        equal
        (plus (times (var t.x) (var x)) (times (times (var t.y) (var m.w)) (negated (var s))))
        (plus (times (var t.x) (var x)) (times (times (negated (var t.y)) (var m.w)) (var s)))
        (omega arith)

-- ---- a plan

module _ (loops : List (List Point)) (plan : IsTrue (is_plan loops)) (e : Edge)
    (e_in : Stands e (edges_of loops)) where
  are : AreBentApart loops
  are = plan_is_bent_apart loops plan

  long : IsLong e
  long = long_edges loops are e e_in

  alone : (p : Spot) → IsOwn e p → IsAloneAt (edges_of loops) e p
  alone = alone_inside loops are e e_in long

  -- the ray back along an edge strikes an even number of edges, from each point inside the edge
  pub even_back : (m : Spot) → IsOwn e m
      → is_odd_number (is_struck (opposite (span_of e)) m) (edges_of loops) ≡ false
  even_back m own =
      along_an_edge loops e long alone m (middle_of e) own (middle_is_own e long)
      ∙ sym (to_the_right loops are e e_in)
      ∙ even (is_solid_right (edges_of loops))
      (passes_if_all (λ f. is_solid_left_of f (edges_of loops)) e (edges_of loops)
      (plan_is loops plan).left e_in)
    where
      is_solid_right : List Edge → Bool
      is_solid_right es = is_odd_number (is_struck (right_of e) (middle_of e)) es

      even : (b : Bool) → not b ≡ true → b ≡ false
      even true left = absurd (false≢true left)
      even false left = refl

  -- a ray to the right of the edge strikes an even number of edges, one to the left an odd number
  pub even_to_the_right : (m : Spot) → IsOwn e m → (r : Arrow)
      → (cross (span_of e) r ≡ pos 0 → ⊥)
      → is_odd_number (is_struck r m) (edges_of loops) ≡ is_positive (cross (span_of e) r)
  even_to_the_right m own r slanted = from (sign_cases (cross (span_of e) r))
    where
      turn : cross r (span_of e) ≡ neg_ℤ (cross (span_of e) r)
      turn = cross-turn (span_of e) r

      from : ((pos 0 <ℤ cross (span_of e) r) ⊎ (cross (span_of e) r ≡ pos 0))
          ⊎ (cross (span_of e) r <ℤ pos 0)
          → is_odd_number (is_struck r m) (edges_of loops) ≡ is_positive (cross (span_of e) r)
      from (inl (inl left)) =
          left_ray loops e m long own (alone m own) (odd_inside loops are e e_in long m own) r
          (omega (arith, ints, turn, left))
          ∙ ap not (even_back m own) ∙ sym (test_less (pos 0) (cross (span_of e) r) left)
      from (inl (inr none)) = absurd (slanted none)
      from (inr right) =
          right_ray loops e m long own (alone m own) r (omega (arith, ints, turn, right))
          ∙ even_back m own
          ∙ sym (test_not_less (pos 0) (cross (span_of e) r) (omega (arith, ints, right)))

  near_own : (m : Spot) → IsOwn e m → (most : Arrow) × IsClosenessAt loops e m most
  near_own m own = from (soon_both left right)
    where
      level : cross (right_of e) (turned (span_of e)) ≡ pos 0
      level = right_is_level e

      level_back : cross (right_of e) (opposite (turned (span_of e))) ≡ pos 0
      level_back =
          let turn = cross-opposite (right_of e) (turned (span_of e)) in
          omega (arith, ints, level)

      on_right : pos 0 <ℤ cross (right_of e) (span_of e)
      on_right = omega (arith, ints, right_is_right e, long)

      way : IsWay (right_of e)
      way = omega (arith, ints, right_length e, long)

      even : is_odd_number (is_struck (right_of e) m) (edges_of loops) ≡ false
      even =
          right_ray loops e m long own (alone m own) (right_of e) on_right ∙ even_back m own

      left : Soon (λ t. is_in_plan loops (aside (turned (span_of e)) m t) ≡ true)
      left =
          soon_inside (turned (span_of e)) m (right_of e) level loops e own long (alone m own)
          (odd_inside loops are e e_in long m own) true
          (own_left (turned (span_of e)) m (right_of e) level e long own.along.is own on_right
          (omega (arith, ints, turned_is_left (span_of e), long)))
          way even

      right : Soon (λ t. is_in_plan loops (aside (opposite (turned (span_of e))) m t) ≡ false)
      right =
          soon_inside (opposite (turned (span_of e))) m (right_of e) level_back loops e own long
          (alone m own) (odd_inside loops are e e_in long m own) false
          (own_right (opposite (turned (span_of e))) m (right_of e) level_back e long own.along.is
          own on_right
          (omega (
            arith,
            ints,
            cross-opposite (span_of e) (turned (span_of e)),
            turned_is_left (span_of e),
            long,
          )))
          way even

      from : Soon (λ t. (is_in_plan loops (aside (turned (span_of e)) m t) ≡ true)
          × (is_in_plan loops (aside (opposite (turned (span_of e))) m t) ≡ false))
          → (most : Arrow) × IsClosenessAt loops e m most
      from soon = (
        soon.most,
        record {
          rational = soon.rational;
          positive = soon.positive;
          inside = λ t t_in t_up least. (soon.holds t t_in t_up least).0;
          outside =
              λ t t_in t_up least.
              sym (ap (is_in_plan loops) (aside-opposite (turned (span_of e)) m t))
              ∙ (soon.holds t t_in t_up least).1;
        },
      )

  -- near each point strictly inside an edge the plan lies left of the edge, and not right of it
  pub near_an_edge : (m : Spot) → IsSpot m → is_within m e ≡ true
      → (most : Arrow) × IsClosenessAt loops e m most
  near_an_edge m m_is within = near_own m (own_from_within e m m_is within)
