-- Two edges with a common point touch: the test by ends and sides sees every common point. So two
-- edges of a plan that have a point in common are consecutive.

use Rattle.std.proofs.Common.{◌≡◌, ◌⊎◌, inl, inr, refl, ap, ap₂, sym, ◌∙◌, arith, ℤ, pos}
use Rattle.std.proofs.Common.{◌+ℤ◌, ◌-ℤ◌, ◌*ℤ◌, ◌<ℤ◌, ◌≤ℤ◌, Bool, true, false, ◌||◌, IsTrue}
use Rattle.std.proofs.Common.{int_le, subst, not, List, [], ◌∷◌}
use Rattle.std.specs.Ordering.{int_eq}
use Rattle.std.specs.List.{list_all, AllByRecursion}
use Rattle.std.proofs.lemmas.Int.{ints, by_lt_z}
use Rattle.std.proofs.lemmas.Bool.{and_from, and_parts, or_left, or_right, false≢true}
use Rattle.std.proofs.lemmas.Bool.Decides.{Decides-int_eq}
use Rattle.theory_numbers.specs.Arrows.{Arrow, arrow, cross, dot, scale}
use Rattle.theory_numbers.proofs.Shapes.{var, num, plus, minus, times, equal, cross_by}
use Rattle.theory_numbers.proofs.Shapes.{dot_by, cross_is, dot_is}
use Rattle.theory_numbers.proofs.Products.{positive_product, negative_product}
use Rattle.theory_numbers.proofs.Products.{weak_negative_product, weak_negative_factor}
use Rattle.theory_numbers.proofs.Products.{zero_of_positive, negative_factor}
use Rattle.theory_numbers.proofs.Ring.{mul_comm, zero-mul}
use Rattle.theory_numbers.proofs.Products.{weak_product_of_negatives}
use Rattle.theory_numbers.proofs.Vectors.Arrows.{same_arrow, cross-turn, cross-self, dot_comm}
use Rattle.theory_numbers.proofs.Vectors.Arrows.{cross-scale, scale-cross, dot-scale, scale-dot}
use Rattle.theory_numbers.proofs.Vectors.ThreeTerms.{frame_dot}
use Rattle.theory_numbers.proofs.Vectors.Lengths.{no_length, some_length, on_both_lines, opposite_ways, turns_over}
use Rattle.theory_numbers.proofs.Signs.{test_less, test_at_most, at_most_from, sign_cases, equal_or_not}
use Rattle.sb_fraction.specs.declared.point.Point.{Point}
use Rattle.sb_fraction.specs.Spots.{Spot, IsSpot, spot_at}
use Rattle.sb_fraction.specs.Edges.{Edge, seen_from, turn_at, reach_at, is_on}
use Rattle.theory_lists.specs.Members.{AllOfTwo}
use Rattle.theory_lists.proofs.Members.{two_follow}
use Rattle.theory_plans.specs.LoopEdges.{edges_of}
use Rattle.theory_plans.specs.Plans.{do_touch, is_parted, is_plan, is_same_point, is_consecutive}
use Rattle.theory_plans.specs.Plans.{is_of_each_two, corners_in, are_apart}
use Rattle.theory_plans.proofs.Edges.EdgesOfPlans.{plan_is}

-- the way from a to b
abbrev pub from_to : Arrow → Arrow → Arrow
from_to a b = arrow (b.x -ℤ a.x) (b.y -ℤ a.y)

-- ---- what is seen from an end

-- the product of the ways from an end
pub seen_cross : (a g d : Arrow)
    → cross (from_to a g) (from_to a d) ≡ (cross g d +ℤ cross a g) -ℤ cross a d
seen_cross a g d =
    equal
    (cross_by (from_to a g) (from_to a d) (minus (var g.x) (var a.x)) (minus (var g.y) (var a.y))
    (minus (var d.x) (var a.x)) (minus (var d.y) (var a.y)))
    (minus (plus (cross_is g d) (cross_is a g)) (cross_is a d)) (omega arith)

dot_to : (k a g : Arrow) → dot k (from_to a g) ≡ dot k g -ℤ dot k a
dot_to k a g =
    equal (dot_by k (from_to a g) (var k.x) (var k.y) (minus (var g.x) (var a.x))
    (minus (var g.y) (var a.y))) (minus (dot_is k g) (dot_is k a)) (omega arith)

cross_to : (k a g : Arrow) → cross k (from_to a g) ≡ cross k g -ℤ cross k a
cross_to k a g =
    equal (cross_by k (from_to a g) (var k.x) (var k.y) (minus (var g.x) (var a.x))
    (minus (var g.y) (var a.y))) (minus (cross_is k g) (cross_is k a)) (omega arith)

-- on the segment from g to d lies a
IsBetween : Arrow → Arrow → Arrow → Type 0
IsBetween a g d = (cross (from_to a g) (from_to a d) ≡ pos 0)
    × (dot (from_to a g) (from_to a d) ≤ℤ pos 0)

-- where all lie on the line of k: by their numbers along k
between_on_line : (k a g d : Arrow) → pos 0 <ℤ dot k k
    → cross k a ≡ pos 0 → cross k g ≡ pos 0 → cross k d ≡ pos 0
    → cross g d ≡ pos 0 → cross a g ≡ pos 0 → cross a d ≡ pos 0
    → ((dot k g -ℤ dot k a) *ℤ (dot k d -ℤ dot k a)) ≤ℤ pos 0 → IsBetween a g d
unfolding IsBetween
between_on_line k a g d long ka kg kd gd ag ad apart =
    let turn = seen_cross a g d in
    let frame = frame_dot k (from_to a g) (from_to a d) in
    let along_g = dot_to k a g in
    let along_d = dot_to k a d in
    let beside_g : cross k (from_to a g) ≡ pos 0 =
    let e = cross_to k a g in omega (arith, ints) in
    let first : dot k (from_to a g) *ℤ dot k (from_to a d)
    ≡ (dot k g -ℤ dot k a) *ℤ (dot k d -ℤ dot k a) =
    ap₂ (λ s t. s *ℤ t) along_g along_d in
    let second : cross k (from_to a g) *ℤ cross k (from_to a d) ≡ pos 0 =
    ap (λ n. n *ℤ cross k (from_to a d)) beside_g ∙ zero-mul (cross k (from_to a d)) in (
      omega (arith, ints),
      weak_negative_factor (dot k k) (dot (from_to a g) (from_to a d)) long (omega (arith, ints)),
    )

-- the ends of two segments that have the origin in common
record HaveOrigin (a b g d : Arrow) : Type 0 where
  first : cross a b ≡ pos 0
  first_across : dot a b ≤ℤ pos 0
  second : cross g d ≡ pos 0
  second_across : dot g d ≤ℤ pos 0

-- how they touch
Touch : Arrow → Arrow → Arrow → Arrow → Type 0
Touch a b g d =
    IsBetween a g d ⊎ (IsBetween b g d ⊎ (IsBetween g a b ⊎ (IsBetween d a b
    ⊎ (((cross (from_to a g) (from_to a d) *ℤ cross (from_to b g) (from_to b d)) <ℤ pos 0)
    × ((cross (from_to g a) (from_to g b) *ℤ cross (from_to d a) (from_to d b)) <ℤ pos 0)))))

-- the first end is the origin
end_at_origin : (a g d : Arrow) → dot a a ≡ pos 0 → cross g d ≡ pos 0 → dot g d ≤ℤ pos 0
    → IsBetween a g d
unfolding IsBetween
end_at_origin a g d none line across =
    let zero = no_length a (omega (arith, ints)) in (
      ap₂ cross (unmoved g zero) (unmoved d zero) ∙ line,
      subst (λ n. n ≤ℤ pos 0) (sym (ap₂ dot (unmoved g zero) (unmoved d zero))) across,
    )
  where
    less_0 : (x y : ℤ) → y ≡ pos 0 → x -ℤ y ≡ x
    less_0 x y zero = omega (arith, ints)

    unmoved : (h : Arrow) → (a.x ≡ pos 0) × (a.y ≡ pos 0) → from_to a h ≡ h
    unmoved h zero = same_arrow (from_to a h) h (less_0 h.x a.x zero.0) (less_0 h.y a.y zero.1)

-- the segments lie on different lines: each parts the ends of the other
parted_to_left : (a b g d : Arrow) → cross a b ≡ pos 0 → cross g d ≡ pos 0
    → pos 0 <ℤ cross a g → cross b g <ℤ pos 0 → cross a d <ℤ pos 0 → pos 0 <ℤ cross b d
    → ((cross (from_to a g) (from_to a d) *ℤ cross (from_to b g) (from_to b d)) <ℤ pos 0)
    × ((cross (from_to g a) (from_to g b) *ℤ cross (from_to d a) (from_to d b)) <ℤ pos 0)
parted_to_left a b g d ab gd ag bg ad bd =
    let at_a = seen_cross a g d in
    let at_b = seen_cross b g d in
    let at_g = seen_cross g a b in
    let at_d = seen_cross d a b in
    let ga = cross-turn a g in
    let gb = cross-turn b g in
    let da = cross-turn a d in
    let db = cross-turn b d in
    let turned = mul_comm (cross (from_to g a) (from_to g b)) (cross (from_to d a) (from_to d b)) in
    let product = negative_product (cross (from_to d a) (from_to d b))
    (cross (from_to g a) (from_to g b)) (omega (arith, ints)) (omega (arith, ints)) in (
      negative_product (cross (from_to a g) (from_to a d)) (cross (from_to b g) (from_to b d))
          (omega (arith, ints)) (omega (arith, ints)),
      omega (arith, ints),
    )

-- the other way round
parted_to_right : (a b g d : Arrow) → cross a b ≡ pos 0 → cross g d ≡ pos 0
    → cross a g <ℤ pos 0 → pos 0 <ℤ cross b g → pos 0 <ℤ cross a d → cross b d <ℤ pos 0
    → ((cross (from_to a g) (from_to a d) *ℤ cross (from_to b g) (from_to b d)) <ℤ pos 0)
    × ((cross (from_to g a) (from_to g b) *ℤ cross (from_to d a) (from_to d b)) <ℤ pos 0)
parted_to_right a b g d ab gd ag bg ad bd =
    let at_a = seen_cross a g d in
    let at_b = seen_cross b g d in
    let at_g = seen_cross g a b in
    let at_d = seen_cross d a b in
    let ga = cross-turn a g in
    let gb = cross-turn b g in
    let da = cross-turn a d in
    let db = cross-turn b d in
    let turned = mul_comm (cross (from_to a g) (from_to a d)) (cross (from_to b g) (from_to b d)) in
    let product = negative_product (cross (from_to b g) (from_to b d))
    (cross (from_to a g) (from_to a d)) (omega (arith, ints)) (omega (arith, ints)) in (
      omega (arith, ints),
      negative_product (cross (from_to g a) (from_to g b)) (cross (from_to d a) (from_to d b))
          (omega (arith, ints)) (omega (arith, ints)),
    )

-- the segments lie on one line: the nearer of two ends on one side lies on the other segment
record OnOneLine (a b g d : Arrow) : Type 0 where
  ab : cross a b ≡ pos 0
  gd : cross g d ≡ pos 0
  ag : cross a g ≡ pos 0
  bg : cross b g ≡ pos 0
  ad : cross a d ≡ pos 0
  bd : cross b d ≡ pos 0
  long : pos 0 <ℤ dot a a
  back : dot a b <ℤ pos 0

near_first : (a b g d : Arrow) → OnOneLine a b g d → pos 0 <ℤ dot a g → dot a d <ℤ pos 0
    → IsBetween a g d ⊎ IsBetween g a b
near_first a b g d l ahead behind =
    let long = l.long in
    let back = l.back in
    let ga = cross-turn a g in
    let gb = cross-turn b g in
    let ag = l.ag in
    let bg = l.bg in
    by_lt_z (dot a g) (dot a a)
    (λ nearer. inr (between_on_line a g a b long l.ag (cross-self a) l.ab l.ab
    (omega (arith, ints)) (omega (arith, ints))
    (weak_negative_product (dot a a -ℤ dot a g) (dot a b -ℤ dot a g)
    (omega (arith, ints)) (omega (arith, ints)))))
    (λ farther. inl (between_on_line a a g d long (cross-self a) l.ag l.ad l.gd l.ag l.ad
    (weak_negative_product (dot a g -ℤ dot a a) (dot a d -ℤ dot a a)
    (omega (arith, ints)) (omega (arith, ints)))))

swapped_between : (a g d : Arrow) → IsBetween a g d → IsBetween a d g
unfolding IsBetween
swapped_between a g d between =
    let turned = cross-turn (from_to a g) (from_to a d) in
    let line = between.0 in (
      omega (arith, ints),
      subst (λ n. n ≤ℤ pos 0) (dot_comm (from_to a g) (from_to a d)) between.1,
    )

touch_on_line : (a b g d : Arrow) → OnOneLine a b g d → dot g d <ℤ pos 0 → Touch a b g d
unfolding Touch
touch_on_line a b g d l across = from (sign_cases (dot a g))
  where
    product : (dot a g *ℤ dot a d) <ℤ pos 0
    product =
        let frame = frame_dot a g d in
        let none : cross a g *ℤ cross a d ≡ pos 0 =
        ap (λ n. n *ℤ cross a d) l.ag ∙ zero-mul (cross a d) in
        let below = negative_product (dot a a) (dot g d) l.long across in
        omega (arith, ints)

    swapped : OnOneLine a b d g
    swapped = record {
      ab = l.ab;
      gd = let turned = cross-turn g d in let line = l.gd in omega (arith, ints);
      ag = l.ad;
      bg = l.bd;
      ad = l.ag;
      bd = l.bg;
      long = l.long;
      back = l.back;
    }

    ahead_of : dot a g <ℤ pos 0 → pos 0 <ℤ dot a d
    ahead_of behind =
        by_lt_z (pos 0) (dot a d) (λ up. up) (λ low.
        let high = weak_product_of_negatives (dot a g) (dot a d) (omega (arith, ints)) low in
        let below = product in
        absurd (omega (arith, ints)))

    near_g : IsBetween a g d ⊎ IsBetween g a b → Touch a b g d
    near_g (inl at_a) = inl at_a
    near_g (inr at_g) = inr (inr (inl at_g))

    near_d : IsBetween a d g ⊎ IsBetween d a b → Touch a b g d
    near_d (inl at_a) = inl (swapped_between a d g at_a)
    near_d (inr at_d) = inr (inr (inr (inl at_d)))

    from : ((pos 0 <ℤ dot a g) ⊎ (dot a g ≡ pos 0)) ⊎ (dot a g <ℤ pos 0) → Touch a b g d
    from (inl (inl ahead)) =
        near_g (near_first a b g d l ahead (negative_factor (dot a g) (dot a d) ahead product))
    from (inl (inr zero)) =
        let none : dot a g *ℤ dot a d ≡ pos 0 =
        ap (λ n. n *ℤ dot a d) zero ∙ zero-mul (dot a d) in
        let below = product in
        absurd (omega (arith, ints))
    from (inr behind) = near_d (near_first a b d g swapped (ahead_of behind) behind)

-- ---- segments that have the origin in common touch

-- with no end there
touch_inside : (a b g d : Arrow) → HaveOrigin a b g d → pos 0 <ℤ dot a a → pos 0 <ℤ dot b b
    → pos 0 <ℤ dot g g → pos 0 <ℤ dot d d → Touch a b g d
unfolding Touch
touch_inside a b g d o long_a long_b long_g long_d = from (sign_cases (cross a g))
  where
    back : dot a b <ℤ pos 0
    back = opposite_ways a b o.first o.first_across long_a long_b

    over : dot g d <ℤ pos 0
    over = opposite_ways g d o.second o.second_across long_g long_d

    -- what d sees is the opposite of what g sees
    right_of_d : (k : Arrow) → pos 0 <ℤ cross k g → cross k d <ℤ pos 0
    right_of_d k left =
        let seen = turns_over g d k o.second over long_g in
        let kg = cross-turn k g in
        let kd = cross-turn k d in
        let above = seen.1 (omega (arith, ints)) in
        omega (arith, ints)

    left_of_d : (k : Arrow) → cross k g <ℤ pos 0 → pos 0 <ℤ cross k d
    left_of_d k right =
        let seen = turns_over g d k o.second over long_g in
        let kg = cross-turn k g in
        let kd = cross-turn k d in
        let below = seen.0 (omega (arith, ints)) in
        omega (arith, ints)

    on_line : cross a g ≡ pos 0 → OnOneLine a b g d
    on_line none =
        let ga : cross g a ≡ pos 0 = let turned = cross-turn a g in omega (arith, ints) in
        let da = on_both_lines g d a o.second long_g ga in
        let ad : cross a d ≡ pos 0 = let turned = cross-turn d a in omega (arith, ints) in
        record {
          ab = o.first;
          gd = o.second;
          ag = none;
          bg = on_both_lines a b g o.first long_a none;
          ad = ad;
          bd = on_both_lines a b d o.first long_a ad;
          long = long_a;
          back = back;
        }

    from : ((pos 0 <ℤ cross a g) ⊎ (cross a g ≡ pos 0)) ⊎ (cross a g <ℤ pos 0) → Touch a b g d
    from (inl (inl left)) =
        let bg = (turns_over a b g o.first back long_a).0 left in
        inr (inr (inr (inr (parted_to_left a b g d o.first o.second left bg
        (right_of_d a left) (left_of_d b bg)))))
    from (inl (inr none)) = touch_on_line a b g d (on_line none) over
    from (inr right) =
        let bg = (turns_over a b g o.first back long_a).1 right in
        inr (inr (inr (inr (parted_to_right a b g d o.first o.second right bg
        (left_of_d a right) (right_of_d b bg)))))

they_touch : (a b g d : Arrow) → HaveOrigin a b g d → Touch a b g d
unfolding Touch
they_touch a b g d o =
    by_length (equal_or_not (dot a a) (pos 0))
    (λ none. inl (end_at_origin a g d none o.second o.second_across)) (λ long_a.
    by_length (equal_or_not (dot b b) (pos 0))
    (λ none. inr (inl (end_at_origin b g d none o.second o.second_across))) (λ long_b.
    by_length (equal_or_not (dot g g) (pos 0))
    (λ none. inr (inr (inl (end_at_origin g a b none o.first o.first_across)))) (λ long_g.
    by_length (equal_or_not (dot d d) (pos 0))
    (λ none. inr (inr (inr (inl (end_at_origin d a b none o.first o.first_across)))))
    (λ long_d. touch_inside a b g d o (some_length a long_a) (some_length b long_b)
    (some_length g long_g) (some_length d long_d)))))
  where
    by_length : {n : ℤ} → (n ≡ pos 0) ⊎ (n ≡ pos 0 → ⊥) → (n ≡ pos 0 → Touch a b g d)
        → ((n ≡ pos 0 → ⊥) → Touch a b g d) → Touch a b g d
    by_length (inl none) zero long = zero none
    by_length (inr some) zero long = long some

-- ---- edges

-- seen from a corner as from p, but for the factor w
seen_between : (p : Spot) (a g : Point)
    → from_to (seen_from p a) (seen_from p g) ≡ scale p.w (seen_from (spot_at a) g)
seen_between p a g =
    same_arrow (from_to (seen_from p a) (seen_from p g)) (scale p.w (seen_from (spot_at a) g))
    (moved g.x a.x p.w p.x) (moved g.y a.y p.w p.y)
  where
    moved : (s t w x : ℤ) → ((s *ℤ w) -ℤ x) -ℤ ((t *ℤ w) -ℤ x) ≡ w *ℤ ((s *ℤ pos 1) -ℤ t)
    moved s t w x =
        equal (minus (minus (times (var s) (var w)) (var x)) (minus (times (var t) (var w)) (var x)))
        (times (var w) (minus (times (var s) (num 1)) (var t))) (omega arith)

-- the turn of an edge at a corner, by what is seen from p
pub turn_seen : (p : Spot) (a : Point) (e : Edge)
    → cross (from_to (seen_from p a) (seen_from p e.a)) (from_to (seen_from p a) (seen_from p e.b))
    ≡ p.w *ℤ (p.w *ℤ turn_at e (spot_at a))
turn_seen p a e =
    ap₂ cross (seen_between p a e.a) (seen_between p a e.b)
    ∙ scale-cross p.w (seen_from (spot_at a) e.a) (scale p.w (seen_from (spot_at a) e.b))
    ∙ ap (λ n. p.w *ℤ n) (cross-scale p.w (seen_from (spot_at a) e.a) (seen_from (spot_at a) e.b))

reach_seen : (p : Spot) (a : Point) (e : Edge)
    → dot (from_to (seen_from p a) (seen_from p e.a)) (from_to (seen_from p a) (seen_from p e.b))
    ≡ p.w *ℤ (p.w *ℤ reach_at e (spot_at a))
reach_seen p a e =
    ap₂ dot (seen_between p a e.a) (seen_between p a e.b)
    ∙ scale-dot p.w (seen_from (spot_at a) e.a) (scale p.w (seen_from (spot_at a) e.b))
    ∙ ap (λ n. p.w *ℤ n) (dot-scale p.w (seen_from (spot_at a) e.a) (seen_from (spot_at a) e.b))

end_is_on : (p : Spot) → IsSpot p → (a : Point) (e : Edge)
    → IsBetween (seen_from p a) (seen_from p e.a) (seen_from p e.b) → is_on (spot_at a) e ≡ true
unfolding IsBetween
end_is_on p p_is a e between =
    and_from (int_eq (turn_at e (spot_at a)) (pos 0)) (int_le (reach_at e (spot_at a)) (pos 0))
    ((Decides-int_eq (turn_at e (spot_at a)) (pos 0)).1
    (zero_of_positive p.w (turn_at e (spot_at a)) p_is
    (zero_of_positive p.w (p.w *ℤ turn_at e (spot_at a)) p_is
    (sym (turn_seen p a e) ∙ between.0))))
    (test_at_most (reach_at e (spot_at a)) (pos 0)
    (weak_negative_factor p.w (reach_at e (spot_at a)) p_is
    (weak_negative_factor p.w (p.w *ℤ reach_at e (spot_at a)) p_is
    (subst (λ n. n ≤ℤ pos 0) (reach_seen p a e) between.1))))

ends_are_parted : (p : Spot) → IsSpot p → (e f : Edge)
    → (cross (from_to (seen_from p f.a) (seen_from p e.a)) (from_to (seen_from p f.a) (seen_from p e.b))
    *ℤ cross (from_to (seen_from p f.b) (seen_from p e.a)) (from_to (seen_from p f.b) (seen_from p e.b)))
    <ℤ pos 0
    → is_parted e f ≡ true
ends_are_parted p p_is e f below =
    let s = turn_at e (spot_at f.a) in
    let t = turn_at e (spot_at f.b) in
    let square = positive_product p.w p.w p_is p_is in
    test_less (s *ℤ t) (pos 0)
    (negative_factor (p.w *ℤ p.w) (s *ℤ t) square
    (negative_factor (p.w *ℤ p.w) ((p.w *ℤ p.w) *ℤ (s *ℤ t)) square
    (subst (λ n. n <ℤ pos 0)
    (ap₂ (λ m n. m *ℤ n) (turn_seen p f.a e) (turn_seen p f.b e) ∙ together p.w s t) below)))
  where
    together : (w s t : ℤ)
        → (w *ℤ (w *ℤ s)) *ℤ (w *ℤ (w *ℤ t)) ≡ (w *ℤ w) *ℤ ((w *ℤ w) *ℤ (s *ℤ t))
    together w s t =
        equal (times (times (var w) (times (var w) (var s))) (times (var w) (times (var w) (var t))))
        (times (times (var w) (var w)) (times (times (var w) (var w)) (times (var s) (var t))))
        (omega arith)

-- a point on both edges makes them touch
pub common_point_touches : (e f : Edge) (p : Spot) → IsSpot p → is_on p e ≡ true → is_on p f ≡ true
    → do_touch e f ≡ true
unfolding Touch
common_point_touches e f p p_is on_e on_f =
    from (they_touch (seen_from p e.a) (seen_from p e.b) (seen_from p f.a) (seen_from p f.b) origin)
  where
    origin : HaveOrigin (seen_from p e.a) (seen_from p e.b) (seen_from p f.a) (seen_from p f.b)
    origin =
        let first = and_parts (int_eq (turn_at e p) (pos 0)) (int_le (reach_at e p) (pos 0)) on_e in
        let second = and_parts (int_eq (turn_at f p) (pos 0)) (int_le (reach_at f p) (pos 0)) on_f in
        record {
          first = (Decides-int_eq (turn_at e p) (pos 0)).0 first.0;
          first_across = at_most_from (reach_at e p) (pos 0) first.1;
          second = (Decides-int_eq (turn_at f p) (pos 0)).0 second.0;
          second_across = at_most_from (reach_at f p) (pos 0) second.1;
        }

    from : Touch (seen_from p e.a) (seen_from p e.b) (seen_from p f.a) (seen_from p f.b)
        → do_touch e f ≡ true
    from (inl at_a) = or_left (is_on (spot_at e.a) f) _ (end_is_on p p_is e.a f at_a)
    from (inr (inl at_b)) =
        or_right (is_on (spot_at e.a) f) _
        (or_left (is_on (spot_at e.b) f) _ (end_is_on p p_is e.b f at_b))
    from (inr (inr (inl at_g))) =
        or_right (is_on (spot_at e.a) f) _ (or_right (is_on (spot_at e.b) f) _
        (or_left (is_on (spot_at f.a) e) _ (end_is_on p p_is f.a e at_g)))
    from (inr (inr (inr (inl at_d)))) =
        or_right (is_on (spot_at e.a) f) _ (or_right (is_on (spot_at e.b) f) _
        (or_right (is_on (spot_at f.a) e) _
        (or_left (is_on (spot_at f.b) e) _ (end_is_on p p_is f.b e at_d))))
    from (inr (inr (inr (inr parted)))) =
        or_right (is_on (spot_at e.a) f) _ (or_right (is_on (spot_at e.b) f) _
        (or_right (is_on (spot_at f.a) e) _ (or_right (is_on (spot_at f.b) e) _
        (and_from (is_parted e f) (is_parted f e) (ends_are_parted p p_is e f parted.1)
        (ends_are_parted p p_is f e parted.0)))))

-- ---- plans

-- a test that holds of each two items, as a fact of each two
pub each_two_pass : {X : Type 0} (test : X → X → Bool) (xs : List X)
    → is_of_each_two test xs ≡ true → AllOfTwo (λ x y. test x y ≡ true) xs
each_two_pass test [] all = tt
each_two_pass {X} test (x ∷ xs) all =
    let parts = and_parts (list_all (test x) xs) (is_of_each_two test xs) all in
    (each_pass xs parts.0, each_two_pass test xs parts.1)
  where
    each_pass : (ys : List X) → list_all (test x) ys ≡ true
        → AllByRecursion (λ y. test x y ≡ true) ys
    each_pass [] passed = tt
    each_pass (y ∷ ys) passed =
        let parts = and_parts (test x y) (list_all (test x) ys) passed in
        (parts.0, each_pass ys parts.1)

-- the two have no point in common, or one begins as the other ends
abbrev pub MeetAtEnds : Edge → Edge → Type 0
MeetAtEnds e f = (p : Spot) → IsSpot p → is_on p e ≡ true → is_on p f ≡ true
    → is_consecutive e f ≡ true

-- two edges that are apart, at different places, and have a point in common are consecutive
pub edges_meet_at_ends : (loops : List (List Point)) → are_apart loops ≡ true
    → AllOfTwo MeetAtEnds (edges_of loops)
edges_meet_at_ends loops apart =
    let parts = and_parts (is_of_each_two (λ a b. not (is_same_point a b)) (corners_in loops))
    (is_of_each_two (λ e f. is_consecutive e f || not (do_touch e f)) (edges_of loops)) apart in
    two_follow (λ e f. (is_consecutive e f || not (do_touch e f)) ≡ true) MeetAtEnds
    (edges_of loops)
    (λ e f at_e at_f free p p_is on_e on_f. first_of_two (is_consecutive e f) (do_touch e f) free
    (common_point_touches e f p p_is on_e on_f))
    (each_two_pass (λ e f. is_consecutive e f || not (do_touch e f)) (edges_of loops) parts.1)
  where
    first_of_two : (b c : Bool) → (b || not c) ≡ true → c ≡ true → b ≡ true
    first_of_two true c holds touch = refl
    first_of_two false true holds touch = absurd (false≢true holds)
    first_of_two false false holds touch = touch

-- so it is with those of a plan
pub plan_edges_meet_at_ends : (loops : List (List Point)) → IsTrue (is_plan loops)
    → AllOfTwo MeetAtEnds (edges_of loops)
plan_edges_meet_at_ends loops is = edges_meet_at_ends loops (plan_is loops is).apart

-- no point is a corner twice of loops that are apart
pub corners_are_once : (loops : List (List Point)) → are_apart loops ≡ true
    → AllOfTwo (λ a b. not (is_same_point a b) ≡ true) (corners_in loops)
corners_are_once loops apart =
    each_two_pass (λ a b. not (is_same_point a b)) (corners_in loops)
    (and_parts (is_of_each_two (λ a b. not (is_same_point a b)) (corners_in loops))
    (is_of_each_two (λ e f. is_consecutive e f || not (do_touch e f)) (edges_of loops)) apart).0
