-- The walk of a ray up or down from a point on no plan edge is what is read between the heights of the
-- products that are present in its gap.
use Rattle.std.proofs.Common.{◌≡◌, refl, sym, ap, ap₂, ◌∙◌, arith, subst, ◌↔◌, ◌⊎◌, inl, inr, ℕ, ◌<◌}
use Rattle.std.proofs.Common.{ℤ, pos, neg_ℤ, ◌+ℤ◌, ◌-ℤ◌, ◌*ℤ◌, ◌<ℤ◌, ◌≤ℤ◌, ◌==◌, Bool, true, false, not}
use Rattle.std.proofs.Common.{◌&&◌, cond, IsTrue, List, [], ◌∷◌, Option, Some, None, map, int_lt, int_le}
use Rattle.std.proofs.Common.{if◌then◌else◌}
use Rattle.std.proofs.Common.{negsuc}
use Rattle.std.specs.List.{AllByRecursion, list_any, find}
use Rattle.std.proofs.lemmas.Int.{ints}
use Rattle.std.proofs.lemmas.Int.{by_lt_z}
use Rattle.std.proofs.lemmas.Bool.{and_parts, eq-eqb, ne_eqb}
use Rattle.std.proofs.lemmas.Bool.{false≢true}
use Rattle.std.proofs.lemmas.Bool.{false_from_ne_true}
use Rattle.std.proofs.lemmas.Option.{none-some}
use Rattle.theory_lists.specs.Members.{Stands, AllOfTwo}
use Rattle.theory_lists.specs.Parity.{differ, is_odd_number}
use Rattle.theory_lists.proofs.Members.{all_stands, all_that_stand}
use Rattle.theory_lists.proofs.Members.{any_stands}
use Rattle.theory_lists.proofs.Parity.{is_odd_number-same, differ-false}
use Rattle.theory_numbers.specs.Arrows.{Arrow, cross}
use Rattle.theory_numbers.specs.Rationals.{IsRational, IsBelow, IsAtMost, is_below, is_at_most, rational}
use Rattle.theory_numbers.proofs.Multiples.{order_of_multiples}
use Rattle.theory_numbers.proofs.Fractions.Reduced.{whole_is_reduced}
use Rattle.theory_numbers.proofs.Ring.{mul_comm}
use Rattle.theory_numbers.proofs.Ring.{neg-mul}
use Rattle.theory_numbers.proofs.Shapes.{var, num, plus, minus, times, negated, equal, cross_eq}
use Rattle.theory_numbers.proofs.Shapes.{cross_by}
use Rattle.theory_numbers.proofs.Signs.{same_less, same_tests, less_from, test_less, at_most_from, test_at_most}
use Rattle.theory_numbers.proofs.Signs.{less_or_not}
use Rattle.theory_numbers.proofs.Signs.{test_not_less}
use Rattle.theory_numbers.proofs.Signs.{test_not_at_most}
use Rattle.theory_cuttings.specs.Cuttings.{Break}
use Rattle.theory_cuttings.specs.Columns.{Rise, IsOneOf, is_odd_below, is_odd_up_to, HasLabelOfPresent}
use Rattle.theory_cuttings.specs.Columns.{present_after}
use Rattle.theory_cuttings.specs.Passages.{ray_start}
use Rattle.sb_fraction.specs.declared.point.Point.{Point}
use Rattle.sb_fraction.specs.Directions.{axis_z}
use Rattle.sb_fraction.specs.Spots.{Spot, spot, IsSpot, Vector, inner, opposite}
use Rattle.sb_fraction.specs.Edges.{is_on}
use Rattle.theory_plans.specs.Inside.{is_in_plan}
use Rattle.theory_plans.specs.LoopEdges.{edges_of}
use Rattle.theory_plans.proofs.PointsAlike.{inside_sees_no_factor}
use Rattle.sb_model.specs.declared.labels.label.Label.{Label}
use Rattle.sb_model.specs.declared.labels.label.Label.TheVariants as label
use Rattle.sb_model.specs.declared.products.Space.{Space}
use Rattle.sb_model.specs.declared.products.Element.{Element}
use Rattle.sb_model.specs.declared.walk.Walk.{Walk}
use Rattle.sb_model.specs.Solids.{Upright, is_upright, is_in_solid, is_between_heights}
use Rattle.sb_model.specs.Solids.{is_height}
use Rattle.sb_model.specs.Building.{Building, is_building}
use Rattle.sb_model.specs.Surfaces.Faces.{space_numbered}
use Rattle.sb_model.specs.Labels.{open_label}
use Rattle.sb_model.specs.Surfaces.PlainPoints.{is_on_plan_edge}
use Rattle.sb_model.specs.PlanEdges.{Product, PlanEdge, plan_edges, products_of}
use Rattle.sb_model.specs.Passages.{Ray, ray_from, at_depth, ArePassages}
use Rattle.sb_model.specs.Walks.{course_of, element_numbered, IsWalkOf}
use Rattle.sb_model.specs.Walks.{is_square}
use Rattle.theory_models.proofs.EdgesOfProducts.{own_edges}
use Rattle.theory_models.proofs.NumbersApart.{own_numbers, space_stands, element_stands}
use Rattle.theory_models.proofs.NumbersApart.{of_space as product_of_space, of_element as product_of_element}
use Rattle.theory_parity.specs.Below.{IsWay, is_below_at}
use Rattle.theory_parity.proofs.Rays.InsideByBelow.{inside_by_below}
use Rattle.theory_sight.specs.Coarse.{coarse, IsOpen, Standing, the_space, the_element, the_ground}
use Rattle.theory_sight.specs.Coarse.{label_of_present}
use Rattle.theory_sight.specs.Reading.{square, read, IsFarEnd}
use Rattle.theory_sight.proofs.Stacked.{coarse_is_stacked}
use Rattle.theory_gaps.specs.Gaps.{is_present}
use Rattle.theory_gaps.specs.Borders.{border, stretches_of, entry_along, exit_along}
use Rattle.theory_gaps.specs.Borders.{ground_along, open_behind, reaches_on, label_behind}
use Rattle.theory_gaps.specs.Borders.{stretches_through, IsCounted, HaveHeights}
use Rattle.theory_gaps.proofs.Rays.LabelsAlongTheNormal.{stacked_where_same, plan_edge, edge_stands}
use Rattle.theory_gaps.proofs.Rays.RaysWithBorders.{Placed, depths_of, borders_of, SeesProducts, AreBorders}
use Rattle.theory_gaps.proofs.Rays.RaysWithBorders.{rays_lie_in_extents, passages_there, walk_is_read_over}
use Rattle.theory_gaps.proofs.Rays.RaysWithBorders.{HasColumn}
use Rattle.theory_gaps.proofs.Rays.RaysWithBorders.{column_there}
use Rattle.theory_lists.proofs.Blocks.{none_where}
use Rattle.theory_numbers.proofs.Vectors.Arrows.{cross-self}
use Rattle.theory_numbers.proofs.Vectors.Arrows.{cross-turn}
use Rattle.theory_plans.specs.Plans.{is_plan}
use Rattle.theory_numbers.proofs.Fractions.Rationals.{below_at_most_trans}
use Rattle.theory_sight.specs.Crossings.{StartsAt, label_along}

-- ---- items by their numbers

-- of items in order of number the one that stands there is found by its number
found_there : {X : Type 0} (number : X → ℕ) (x : X) (xs : List X)
    → AllOfTwo (λ y z. number y < number z) xs → Stands x xs
    → find (λ y. number y == number x) xs ≡ Some x
found_there number x [] rise there = absurd there
found_there number x (y ∷ ys) rise (inl here) =
    ap (λ b. cond b (Some y) (find (λ z. number z == number x) ys))
    (eq-eqb (number y) (number x) (ap number (sym here)))
    ∙ ap Some (sym here)
found_there number x (y ∷ ys) rise (inr later) =
    let less = all_stands (λ z. number y < number z) x ys rise.0 later in
    ap (λ b. cond b (Some y) (find (λ z. number z == number x) ys))
    (ne_eqb (number y) (number x) (λ same. omega arith))
    ∙ found_there number x ys rise.1 later

-- what is found stands in the list
found_stands : {X : Type 0} (test : X → Bool) (xs : List X) (x : X) → find test xs ≡ Some x
    → Stands x xs
found_stands test [] x found = absurd (none-some x found)
found_stands {X} test (y ∷ ys) x found = by (test y) (found_stands test ys x) found
  where
    by : (b : Bool) → (find test ys ≡ Some x → Stands x ys) → cond b (Some y) (find test ys) ≡ Some x
        → Stands x (y ∷ ys)
    by true later same = let e : y ≡ x = cc in inl (sym e)
    by false later same = inr (later same)

-- ---- the gap of a point

-- the edges below a point along d
pub record AreBelow (m : Building) (d : Arrow) (p : Spot) (passed : List PlanEdge) : Type 0 where
  pub odd : (test : PlanEdge → Bool)
      → is_odd_number test passed
      ≡ is_odd_number (λ e. is_below_at d p e.edge && test e) (plan_edges m)

-- a product with no own edge through the point contains it exactly where it is present behind the edges
-- below it
pub present_is_inside : (m : Building) → IsTrue (is_building m) → (d : Arrow) (p : Spot)
    → IsWay d → IsSpot p → (passed : List PlanEdge) → AreBelow m d p passed
    → (q : Product) → Stands q (products_of m) → list_any (is_on p) (edges_of q.prism.loops) ≡ false
    → is_in_plan q.prism.loops p ≡ is_present passed q.number
present_is_inside m valid d p d_is p_is passed below q q_in off =
    inside_by_below d p d_is p_is q.prism.loops
    ∙ ap (λ t. not t && is_odd_number (is_below_at d p) (edges_of q.prism.loops)) off
    ∙ sym (own_edges m valid q q_in (is_below_at d p))
    ∙ is_odd_number-same (λ e. (e.product == q.number) && is_below_at d p e.edge)
    (λ e. is_below_at d p e.edge && (e.product == q.number))
    (λ e. turned (e.product == q.number) (is_below_at d p e.edge)) (plan_edges m)
    ∙ sym (below.odd (λ e. e.product == q.number))
  where
    turned : (s t : Bool) → (s && t) ≡ (t && s)
    turned true true = refl
    turned true false = refl
    turned false true = refl
    turned false false = refl

-- a point on no plan edge is on no edge of a product
pub off_own_edges : (m : Building) (p : Spot) → is_on_plan_edge m p ≡ false → (q : Product)
    → Stands q (products_of m) → list_any (is_on p) (edges_of q.prism.loops) ≡ false
off_own_edges m p off q q_in =
    none_where (is_on p) (edges_of q.prism.loops)
    (all_that_stand (λ e. is_on p e ≡ false) (edges_of q.prism.loops)
    (λ e e_in.
    false_from_ne_true (is_on p e)
    (λ on.
    false≢true
    (sym off
    ∙ any_stands (λ f. is_on p f.edge) (plan_edge e q.number) (plan_edges m)
    (edge_stands e q (products_of m) q_in e_in) on))))

-- ---- the ray

-- the way up or down
abbrev pub upright_normal : Bool → Vector
upright_normal up = if up then axis_z else opposite axis_z

-- a whole position of a ray from x0 as a depth
abbrev pub depth_from : ℤ → ℤ → Arrow
depth_from x0 z = rational (z -ℤ x0) (pos 1)

-- the order of a depth and a whole position, by their numbers
cross_depth : (x0 z : ℤ) (t : Arrow)
    → cross (depth_from x0 z) t ≡ ((x0 *ℤ t.x) +ℤ t.y) -ℤ (z *ℤ t.x)
cross_depth x0 z t =
    equal (cross_by (depth_from x0 z) t (num 1) (minus (var z) (var x0)) (var t.x) (var t.y))
    (minus (plus (times (var x0) (var t.x)) (var t.y)) (times (var z) (var t.x))) (omega arith)

module _ (x0 : ℤ) (t : Arrow) (w : ℤ) (w_in : pos 0 <ℤ w) where
  scaled_height : (z : ℤ) → z *ℤ (w *ℤ (t.x *ℤ pos 1)) ≡ w *ℤ (z *ℤ t.x)
  scaled_height z =
      equal (times (var z) (times (var w) (times (var t.x) (num 1))))
      (times (var w) (times (var z) (var t.x))) (omega arith)

  -- a height below a point of the ray up
  below_height : (z : ℤ)
      → int_lt (z *ℤ (w *ℤ (t.x *ℤ pos 1))) (w *ℤ ((x0 *ℤ t.x) +ℤ t.y))
      ≡ is_below (depth_from x0 z) t
  below_height z =
      ap (λ k. int_lt k (w *ℤ ((x0 *ℤ t.x) +ℤ t.y))) (scaled_height z)
      ∙ order_of_multiples w (z *ℤ t.x) ((x0 *ℤ t.x) +ℤ t.y) w_in
      ∙ same_less (z *ℤ t.x) ((x0 *ℤ t.x) +ℤ t.y) (pos 0) (cross (depth_from x0 z) t)
      (λ less. let whole = cross_depth x0 z t in omega (arith, ints))
      (λ less. let whole = cross_depth x0 z t in omega (arith, ints))

  -- and one above it
  above_height : (z : ℤ)
      → int_lt (w *ℤ ((x0 *ℤ t.x) +ℤ t.y)) (z *ℤ (w *ℤ (t.x *ℤ pos 1)))
      ≡ is_below t (depth_from x0 z)
  above_height z =
      ap (int_lt (w *ℤ ((x0 *ℤ t.x) +ℤ t.y))) (scaled_height z)
      ∙ order_of_multiples w ((x0 *ℤ t.x) +ℤ t.y) (z *ℤ t.x) w_in
      ∙ same_less ((x0 *ℤ t.x) +ℤ t.y) (z *ℤ t.x) (pos 0) (cross t (depth_from x0 z))
      (λ less.
      let whole = cross_depth x0 z t in
      let turn = cross-turn (depth_from x0 z) t in omega (arith, ints))
      (λ less.
      let whole = cross_depth x0 z t in
      let turn = cross-turn (depth_from x0 z) t in omega (arith, ints))

  -- on the way down the two are exchanged
  below_height_down : (z : ℤ)
      → int_lt (z *ℤ (w *ℤ (t.x *ℤ pos 1))) (neg_ℤ (w *ℤ ((x0 *ℤ t.x) +ℤ t.y)))
      ≡ is_below t (depth_from x0 (neg_ℤ z))
  below_height_down z =
      same_less (z *ℤ (w *ℤ (t.x *ℤ pos 1))) (neg_ℤ (w *ℤ ((x0 *ℤ t.x) +ℤ t.y)))
      (w *ℤ ((x0 *ℤ t.x) +ℤ t.y)) (neg_ℤ z *ℤ (w *ℤ (t.x *ℤ pos 1)))
      (λ less. let n = neg-mul z (w *ℤ (t.x *ℤ pos 1)) in omega (arith, ints))
      (λ less. let n = neg-mul z (w *ℤ (t.x *ℤ pos 1)) in omega (arith, ints))
      ∙ above_height (neg_ℤ z)

  above_height_down : (z : ℤ)
      → int_lt (neg_ℤ (w *ℤ ((x0 *ℤ t.x) +ℤ t.y))) (z *ℤ (w *ℤ (t.x *ℤ pos 1)))
      ≡ is_below (depth_from x0 (neg_ℤ z)) t
  above_height_down z =
      same_less (neg_ℤ (w *ℤ ((x0 *ℤ t.x) +ℤ t.y))) (z *ℤ (w *ℤ (t.x *ℤ pos 1)))
      (neg_ℤ z *ℤ (w *ℤ (t.x *ℤ pos 1))) (w *ℤ ((x0 *ℤ t.x) +ℤ t.y))
      (λ less. let n = neg-mul z (w *ℤ (t.x *ℤ pos 1)) in omega (arith, ints))
      (λ less. let n = neg-mul z (w *ℤ (t.x *ℤ pos 1)) in omega (arith, ints))
      ∙ below_height (neg_ℤ z)

-- the height of a point of the ray, by its position
height_up : (x0 pz tx ty w : ℤ) → pz ≡ x0 *ℤ w
    → (pz *ℤ (tx *ℤ pos 1)) +ℤ (pos 1 *ℤ (ty *ℤ w)) ≡ w *ℤ ((x0 *ℤ tx) +ℤ ty)
height_up x0 pz tx ty w same =
    ap (λ z. (z *ℤ (tx *ℤ pos 1)) +ℤ (pos 1 *ℤ (ty *ℤ w))) same
    ∙ equal
    (plus (times (times (var x0) (var w)) (times (var tx) (num 1)))
    (times (num 1) (times (var ty) (var w))))
    (times (var w) (plus (times (var x0) (var tx)) (var ty))) (omega arith)

height_down : (x0 pz tx ty w : ℤ) → pz ≡ neg_ℤ (x0 *ℤ w)
    → (pz *ℤ (tx *ℤ pos 1)) +ℤ (negsuc 0 *ℤ (ty *ℤ w)) ≡ neg_ℤ (w *ℤ ((x0 *ℤ tx) +ℤ ty))
height_down x0 pz tx ty w same =
    ap (λ z. (z *ℤ (tx *ℤ pos 1)) +ℤ (negsuc 0 *ℤ (ty *ℤ w))) same
    ∙ equal
    (plus (times (negated (times (var x0) (var w))) (times (var tx) (num 1)))
    (times (negated (num 1)) (times (var ty) (var w))))
    (negated (times (var w) (plus (times (var x0) (var tx)) (var ty)))) (omega arith)

pub start_up : (p : Spot) (x0 : ℤ) → StartsAt (ray_from p axis_z) x0 → p.z ≡ x0 *ℤ p.w
start_up p x0 starts = of p.x p.y p.z (x0 *ℤ p.w) starts
  where
    of : (x y z k : ℤ) → ((x *ℤ pos 0) +ℤ (y *ℤ pos 0)) +ℤ (z *ℤ pos 1) ≡ k → z ≡ k
    of x y z k same = omega (arith, ints)

pub start_down : (p : Spot) (x0 : ℤ) → StartsAt (ray_from p (opposite axis_z)) x0
    → p.z ≡ neg_ℤ (x0 *ℤ p.w)
start_down p x0 starts = of p.x p.y p.z (x0 *ℤ p.w) starts
  where
    of : (x y z k : ℤ) → ((x *ℤ pos 0) +ℤ (y *ℤ pos 0)) +ℤ (z *ℤ negsuc 0) ≡ k → z ≡ neg_ℤ k
    of x y z k same = omega (arith, ints)

and_turned : (s t : Bool) → (s && t) ≡ (t && s)
and_turned true true = refl
and_turned true false = refl
and_turned false true = refl
and_turned false false = refl

-- a point of the ray lies between the heights of a prism where its depth lies between entry and exit
between_at : (up : Bool) (p : Spot) (x0 : ℤ) → StartsAt (ray_from p (upright_normal up)) x0
    → IsSpot p → (s : Upright) (t : Arrow)
    → is_between_heights s.z0 s.z1 (at_depth (ray_from p (upright_normal up)) t)
    ≡ (is_below (depth_from x0 (entry_along (upright_normal up) s)) t
    && is_below t (depth_from x0 (exit_along (upright_normal up) s)))
between_at true p x0 starts p_is s t =
    let height = height_up x0 p.z t.x t.y p.w (start_up p x0 starts) in
    ap₂ (λ a b. a && b)
    (ap (int_lt (s.z0 *ℤ (p.w *ℤ (t.x *ℤ pos 1)))) height ∙ below_height x0 t p.w p_is s.z0)
    (ap (λ z. int_lt z (s.z1 *ℤ (p.w *ℤ (t.x *ℤ pos 1)))) height ∙ above_height x0 t p.w p_is s.z1)
between_at false p x0 starts p_is s t =
    let height = height_down x0 p.z t.x t.y p.w (start_down p x0 starts) in
    ap₂ (λ a b. a && b)
    (ap (int_lt (s.z0 *ℤ (p.w *ℤ (t.x *ℤ pos 1)))) height ∙ below_height_down x0 t p.w p_is s.z0)
    (ap (λ z. int_lt z (s.z1 *ℤ (p.w *ℤ (t.x *ℤ pos 1)))) height
    ∙ above_height_down x0 t p.w p_is s.z1)
    ∙ and_turned (is_below t (depth_from x0 (neg_ℤ s.z0)))
    (is_below (depth_from x0 (neg_ℤ s.z1)) t)

-- whether the ground is behind
abbrev ground_test : Bool → Arrow → Arrow → Bool
ground_test up g t = if up then is_at_most g t else is_below g t

-- what is bare before the ground and behind it
abbrev pub bare_around : Bool → Bool → Label
bare_around up behind =
    if up
    then (if behind then label.Void else label.Earth)
    else (if behind then label.Earth else label.Void)

not_less : (a b : ℤ) → int_lt a b ≡ not (int_le b a)
not_less a b =
    by_lt_z a b
    (λ less. test_less a b less ∙ ap not (sym (test_not_at_most b a less)))
    (λ more. test_not_less a b more ∙ ap not (sym (test_at_most b a more)))

bare_at : (up : Bool) (p : Spot) (x0 : ℤ) → StartsAt (ray_from p (upright_normal up)) x0 → IsSpot p
    → (ground_height : ℤ) (t : Arrow)
    → open_label ground_height (at_depth (ray_from p (upright_normal up)) t)
    ≡ bare_around up
    (ground_test up (depth_from x0 (ground_along (upright_normal up) ground_height)) t)
bare_at true p x0 starts p_is g t =
    let height = height_up x0 p.z t.x t.y p.w (start_up p x0 starts) in
    ap (λ b. if b then label.Earth else label.Void)
    (ap (λ z. int_lt z (g *ℤ (p.w *ℤ (t.x *ℤ pos 1)))) height ∙ above_height x0 t p.w p_is g
    ∙ turned)
    ∙ exchanged (is_at_most (depth_from x0 g) t)
  where
    turned : is_below t (depth_from x0 g) ≡ not (is_at_most (depth_from x0 g) t)
    turned =
        same_less (pos 0) (cross t (depth_from x0 g)) (cross (depth_from x0 g) t) (pos 0)
        (λ less. let turn = cross-turn t (depth_from x0 g) in omega (arith, ints))
        (λ less. let turn = cross-turn t (depth_from x0 g) in omega (arith, ints))
        ∙ not_less (cross (depth_from x0 g) t) (pos 0)

    exchanged : (b : Bool)
        → cond (not b) label.Earth label.Void ≡ cond b label.Void label.Earth
    exchanged true = refl
    exchanged false = refl
bare_at false p x0 starts p_is g t =
    let height = height_down x0 p.z t.x t.y p.w (start_down p x0 starts) in
    ap (λ b. if b then label.Earth else label.Void)
    (ap (λ z. int_lt z (g *ℤ (p.w *ℤ (t.x *ℤ pos 1)))) height ∙ above_height_down x0 t p.w p_is g)

-- a point of the ray lies in the plans in which p lies
pub inside_at_depth : (up : Bool) (p : Spot) (loops : List (List Point)) (t : Arrow) → IsRational t
    → is_in_plan loops (at_depth (ray_from p (upright_normal up)) t) ≡ is_in_plan loops p
inside_at_depth up p loops t t_in = by up
  where
    k : ℤ
    k = t.x *ℤ pos 1

    k_in : pos 0 <ℤ k
    k_in = omega (arith, ints, t_in)

    coordinate : (x far : ℤ) → (x *ℤ (t.x *ℤ pos 1)) +ℤ (pos 0 *ℤ far) ≡ (t.x *ℤ pos 1) *ℤ x
    coordinate x far =
        equal (plus (times (var x) (times (var t.x) (num 1))) (times (num 0) (var far)))
        (times (times (var t.x) (num 1)) (var x)) (omega arith)

    alike : (x y w : ℤ) → x ≡ (t.x *ℤ pos 1) *ℤ p.x → y ≡ (t.x *ℤ pos 1) *ℤ p.y
        → w ≡ (t.x *ℤ pos 1) *ℤ p.w
        → is_in_plan loops (spot x y (pos 0) w) ≡ is_in_plan loops p
    alike x y w same_x same_y same_w =
        (λ i. is_in_plan loops (spot (same_x i) (same_y i) (pos 0) (same_w i)))
        ∙ inside_sees_no_factor loops (t.x *ℤ pos 1) p k_in

    by : (up : Bool)
        → is_in_plan loops (at_depth (ray_from p (upright_normal up)) t) ≡ is_in_plan loops p
    by true =
        alike _ _ _ (coordinate p.x (t.y *ℤ p.w)) (coordinate p.y (t.y *ℤ p.w))
        (mul_comm p.w (t.x *ℤ pos 1))
    by false =
        alike _ _ _ (coordinate p.x (t.y *ℤ p.w)) (coordinate p.y (t.y *ℤ p.w))
        (mul_comm p.w (t.x *ℤ pos 1))

-- ---- its values

module _ (m : Building) (valid : IsTrue (is_building m)) (up : Bool) (p : Spot) (x0 : ℤ)
    (starts : StartsAt (ray_from p (upright_normal up)) x0) (p_is : IsSpot p) (d : Arrow)
    (d_is : IsWay d) (off : is_on_plan_edge m p ≡ false) (passed : List PlanEdge)
    (below : AreBelow m d p passed) where
  abbrev n : Vector
  n = upright_normal up

  abbrev r : Ray
  r = ray_from p (upright_normal up)

  abbrev pub depth : ℤ → Arrow
  depth z = depth_from x0 z

  some : pos 0 <ℤ inner (upright_normal up) (upright_normal up)
  some = by up
    where
      by : (t : Bool) → pos 0 <ℤ inner (upright_normal t) (upright_normal t)
      by true = omega (arith, ints)
      by false = omega (arith, ints)

  -- entry and exit of a prism whose product is present
  abbrev pub ends_if : Bool → Upright → List Arrow
  ends_if present s =
      if present
      then depth (entry_along (upright_normal up) s) ∷ depth (exit_along (upright_normal up) s) ∷ []
      else []

  abbrev of_space_there : Option Space → List Arrow
  of_space_there None = []
  of_space_there (Some s) = ends_if (is_present passed s.number) s.prism

  abbrev of_element_there : Option Element → List Arrow
  of_element_there None = []
  of_element_there (Some e) = ends_if (is_present passed e.number) e.prism

  -- the values of what stands on the ray
  abbrev values : Standing → List Arrow
  values (the_space s) = of_space_there (space_numbered m s.number)
  values (the_element e) = of_element_there (element_numbered m e.number)
  values the_ground = depth (ground_along (upright_normal up) m.ground_height) ∷ []

  values_of_space : (s : Space) → Stands s m.spaces
      → values (the_space s) ≡ ends_if (is_present passed s.number) s.prism
  values_of_space s s_in =
      ap of_space_there
      (found_there (λ x. x.number) s m.spaces ((own_numbers m valid).spaces.rise) s_in)

  values_of_element : (e : Element) → Stands e m.elements
      → values (the_element e) ≡ ends_if (is_present passed e.number) e.prism
  values_of_element e e_in =
      ap of_element_there
      (found_there (λ x. x.number) e m.elements ((own_numbers m valid).elements.rise) e_in)

  -- a solid is entered before it is left
  pub entry_first : (s : Upright) → IsTrue (is_upright s)
      → entry_along (upright_normal up) s <ℤ exit_along (upright_normal up) s
  entry_first s solid = by up
    where
      wide : s.z0 <ℤ s.z1
      wide =
          less_from s.z0 s.z1
          (and_parts (is_plan s.loops) (int_lt s.z0 s.z1)
          (and_parts (is_plan s.loops && int_lt s.z0 s.z1) (is_height s.z0)
          (and_parts (is_plan s.loops && int_lt s.z0 s.z1 && is_height s.z0) (is_height s.z1)
          solid).0).0).1

      by : (t : Bool) → entry_along (upright_normal t) s <ℤ exit_along (upright_normal t) s
      by true = wide
      by false = omega (arith, ints, wide)

  -- present at a depth
  abbrev present_at : Arrow → Standing → Bool
  present_at t (the_space s) =
      is_odd_below (values (the_space s)) t && is_odd_up_to (values (the_space s)) t
  present_at t (the_element e) =
      is_odd_below (values (the_element e)) t && is_odd_up_to (values (the_element e)) t
  present_at t the_ground =
      if up then is_odd_up_to (values the_ground) t else is_odd_below (values the_ground) t

  -- a product stands at a depth between its entry and its exit, where it is present
  pub of_prism : (q : Product) → Stands q (products_of m) → IsTrue (is_upright q.prism) → (t : Arrow)
      → IsRational t
      → is_in_solid q.prism (at_depth (ray_from p (upright_normal up)) t)
      ≡ (is_odd_below (ends_if (is_present passed q.number) q.prism) t
      && is_odd_up_to (ends_if (is_present passed q.number) q.prism) t)
  of_prism q q_in solid t t_in =
      ap₂ (λ a b. a && b)
      (inside_at_depth up p q.prism.loops t t_in
      ∙ present_is_inside m valid d p d_is p_is passed below q q_in (off_own_edges m p off q q_in))
      (between_at up p x0 starts p_is q.prism t)
      ∙ by (is_present passed q.number)
    where
      from : Arrow
      from = depth (entry_along (upright_normal up) q.prism)

      to : Arrow
      to = depth (exit_along (upright_normal up) q.prism)

      order : IsBelow from to
      order =
          let wide = entry_first q.prism solid in
          let spread =
          cross_eq (depth (entry_along (upright_normal up) q.prism))
          (depth (exit_along (upright_normal up) q.prism))
          in
          omega (arith, ints)

      table : (a b c e : Bool) → (a ≡ true → b ≡ true) → (c ≡ true → e ≡ true)
          → (e ≡ true → a ≡ true)
          → (a && not e) ≡ (differ a (differ c false) && differ b (differ e false))
      table true true true true ab ce ea = refl
      table true true false true ab ce ea = refl
      table true true false false ab ce ea = refl
      table true true true false ab ce ea = absurd (false≢true (ce refl))
      table true false c e ab ce ea = absurd (false≢true (ab refl))
      table false b c true ab ce ea = absurd (false≢true (ea refl))
      table false b true false ab ce ea = absurd (false≢true (ce refl))
      table false b false false ab ce ea = refl

      not_behind : is_below t to ≡ not (is_at_most to t)
      not_behind =
          same_less (pos 0) (cross t to) (cross to t) (pos 0)
          (λ less. let turn = cross-turn t to in omega (arith, ints))
          (λ less. let turn = cross-turn t to in omega (arith, ints))
          ∙ not_less (cross to t) (pos 0)

      by : (present : Bool)
          → (present && (is_below from t && is_below t to))
          ≡ (is_odd_below (ends_if present q.prism) t && is_odd_up_to (ends_if present q.prism) t)
      by true =
          ap (λ b. is_below from t && b) not_behind
          ∙ table (is_below from t) (is_at_most from t) (is_below to t) (is_at_most to t)
          (λ less.
          let low = less_from (pos 0) (cross from t) less in
          test_at_most (pos 0) (cross from t) (omega (arith, ints)))
          (λ less.
          let low = less_from (pos 0) (cross to t) less in
          test_at_most (pos 0) (cross to t) (omega (arith, ints)))
          (λ least.
          test_less (pos 0) (cross from t)
          (below_at_most_trans from to t (omega (arith, ints)) (omega (arith, ints)) t_in order
          (at_most_from (pos 0) (cross to t) least)))
      by false = refl

  -- the ray sees products by these values
  sees_by_heights : HasLabelOfPresent
      (λ t. coarse (label_along m (ray_from p (upright_normal up)) t))
      (label_of_present m (bare_around up)) values
  sees_by_heights = record {
    is_present = present_at;
    label_is =
        λ t t_in.
        coarse_is_stacked m (at_depth (ray_from p (upright_normal up)) t)
        ∙ stacked_where_same m
        (λ s. is_in_solid s.prism (at_depth (ray_from p (upright_normal up)) t))
        (λ s. present_at t (the_space s))
        (λ e. is_in_solid e.prism (at_depth (ray_from p (upright_normal up)) t))
        (λ e. present_at t (the_element e))
        (open_label m.ground_height (at_depth (ray_from p (upright_normal up)) t))
        (bare_around up (present_at t the_ground))
        (λ s s_in.
        of_prism (product_of_space s) (space_stands m s s_in) s.is_solid t t_in
        ∙ ap (λ vs. is_odd_below vs t && is_odd_up_to vs t) (sym (values_of_space s s_in)))
        (λ e e_in.
        of_prism (product_of_element e) (element_stands m e e_in) e.is_solid t t_in
        ∙ ap (λ vs. is_odd_below vs t && is_odd_up_to vs t) (sym (values_of_element e e_in)))
        (bare_at up p x0 starts p_is m.ground_height t
        ∙ ap (bare_around up)
        (ground_is up (depth (ground_along (upright_normal up) m.ground_height)) t));
    present_is = λ t t_in q same. present_is t q same;
  }
    where
      ground_is : (up : Bool) (g t : Arrow)
          → ground_test up g t
          ≡ (if up then is_odd_up_to (g ∷ []) t else is_odd_below (g ∷ []) t)
      ground_is true g t = sym (differ-false (is_at_most g t))
      ground_is false g t = sym (differ-false (is_below g t))

      both : (r s : Bool) → r ≡ s → (r && s) ≡ r
      both true true same = refl
      both true false same = sym same
      both false s same = refl

      either : (up r s : Bool) → r ≡ s → (if up then s else r) ≡ r
      either true r s same = sym same
      either false r s same = refl

      present_is : (t : Arrow) (q : Standing)
          → is_odd_below (values q) t ≡ is_odd_up_to (values q) t
          → present_at t q ≡ is_odd_below (values q) t
      present_is t (the_space s) same =
          both (is_odd_below (values (the_space s)) t) (is_odd_up_to (values (the_space s)) t) same
      present_is t (the_element e) same =
          both (is_odd_below (values (the_element e)) t) (is_odd_up_to (values (the_element e)) t) same
      present_is t the_ground same =
          either up (is_odd_below (values the_ground) t) (is_odd_up_to (values the_ground) t) same

  -- ---- its borders

  -- a whole position behind or at another
  up_to_whole : (y z : ℤ) → is_at_most (depth y) (depth z) ≡ int_le y z
  up_to_whole y z =
      let spread = cross_eq (depth_from x0 y) (depth_from x0 z) in
      same_tests (is_at_most (depth y) (depth z)) (int_le y z)
      (λ least.
      let order = at_most_from (pos 0) (cross (depth_from x0 y) (depth_from x0 z)) least in
      test_at_most y z (omega (arith, ints)))
      (λ least.
      let order = at_most_from y z least in
      test_at_most (pos 0) (cross (depth_from x0 y) (depth_from x0 z)) (omega (arith, ints)))

  -- what is present just behind a whole position
  present_behind : (present : Bool) (s : Upright) → IsTrue (is_upright s) → (z : ℤ)
      → is_odd_up_to (ends_if present s) (depth z)
      ≡ (present && reaches_on (upright_normal up) z s)
  present_behind false s solid z = refl
  present_behind true s solid z =
      ap₂ (λ a b. differ a (differ b false)) (up_to_whole (entry_along (upright_normal up) s) z)
      (up_to_whole (exit_along (upright_normal up) s) z)
      ∙ table (int_le (entry_along (upright_normal up) s) z)
      (int_le (exit_along (upright_normal up) s) z)
      (λ least.
      let order = at_most_from (exit_along (upright_normal up) s) z least in
      let wide = entry_first s solid in
      test_at_most (entry_along (upright_normal up) s) z (omega (arith, ints)))
      ∙ ap (λ b. int_le (entry_along (upright_normal up) s) z && b)
      (sym (not_less z (exit_along (upright_normal up) s)))
    where
      table : (a b : Bool) → (b ≡ true → a ≡ true) → differ a (differ b false) ≡ (a && not b)
      table true true ba = refl
      table true false ba = refl
      table false true ba = absurd (false≢true (ba refl))
      table false false ba = refl

  open_is : (up : Bool) (g z : ℤ)
      → open_behind (upright_normal up) g z
      ≡ bare_around up (differ (int_le (ground_along (upright_normal up) g) z) false)
  open_is true g z =
      ap (λ b. if b then label.Earth else label.Void) (not_less z g) ∙ by (int_le g z)
    where
      by : (b : Bool)
          → cond (not b) label.Earth label.Void ≡ cond (differ b false) label.Void label.Earth
      by true = refl
      by false = refl
  open_is false g z =
      ap (λ b. if b then label.Void else label.Earth) (not_less z (neg_ℤ g)) ∙ by (int_le (neg_ℤ g) z)
    where
      by : (b : Bool)
          → cond (not b) label.Void label.Earth ≡ cond (differ b false) label.Earth label.Void
      by true = refl
      by false = refl

  -- the label just behind a whole position
  label_is_behind : (z : ℤ)
      → label_behind m (upright_normal up) passed z
      ≡ label_of_present m (bare_around up) (present_after values (depth z))
  label_is_behind z =
      stacked_where_same m
      (λ s. is_present passed s.number && reaches_on (upright_normal up) z s.prism)
      (λ s. present_after values (depth z) (the_space s))
      (λ e. is_present passed e.number && reaches_on (upright_normal up) z e.prism)
      (λ e. present_after values (depth z) (the_element e))
      (open_behind (upright_normal up) m.ground_height z)
      (bare_around up (present_after values (depth z) the_ground))
      (λ s s_in.
      sym (present_behind (is_present passed s.number) s.prism s.is_solid z)
      ∙ ap (λ vs. is_odd_up_to vs (depth z)) (sym (values_of_space s s_in)))
      (λ e e_in.
      sym (present_behind (is_present passed e.number) e.prism e.is_solid z)
      ∙ ap (λ vs. is_odd_up_to vs (depth z)) (sym (values_of_element e e_in)))
      (open_is up m.ground_height z
      ∙ ap (λ b. bare_around up (differ b false))
      (sym (up_to_whole (ground_along (upright_normal up) m.ground_height) z)))

  module _ (heights : List ℤ) (have : HaveHeights m (upright_normal up) passed x0 heights) where
    abbrev placed_at : ℤ → Placed
    placed_at z =
        record {
          start = depth z;
          border = border (square z) (label_behind m (upright_normal up) passed z);
        }

    abbrev steps : List Placed
    steps = map placed_at heights

    borders_are : (zs : List ℤ)
        → borders_of (map placed_at zs)
        ≡ map (λ z. border (square z) (label_behind m (upright_normal up) passed z)) zs
    borders_are [] = refl
    borders_are (z ∷ zs) =
        ap (λ bs. border (square z) (label_behind m (upright_normal up) passed z) ∷ bs)
        (borders_are zs)

    depth_rises : (y z : ℤ) → y <ℤ z → IsBelow (depth y) (depth z)
    depth_rises y z less =
        let spread = cross_eq (depth_from x0 y) (depth_from x0 z) in omega (arith, ints)

    depths_rise : (y : ℤ) (zs : List ℤ) → AllByRecursion (λ z. y <ℤ z) zs
        → AllOfTwo (λ a b. a <ℤ b) zs → Rise (Some (depth y)) (depths_of (map placed_at zs))
    depths_rise y [] above rise = tt
    depths_rise y (z ∷ zs) above rise =
        (whole_is_reduced (z -ℤ x0), depth_rises y z above.0, depths_rise z zs rise.0 rise.1)

    labels_are : (zs : List ℤ)
        → AllByRecursion
        (λ s. s.border.label
        ≡ label_of_present m (bare_around up) (present_after values s.start)) (map placed_at zs)
    labels_are [] = tt
    labels_are (z ∷ zs) = (label_is_behind z, labels_are zs)

    ends_are : (zs : List ℤ)
        → AllByRecursion
        (λ s. IsFarEnd m (ray_from p (upright_normal up)) x0 s.start s.border.far) (map placed_at zs)
    ends_are [] = tt
    ends_are (z ∷ zs) = ((refl, square_there up), ends_are zs)
      where
        square_there : (up : Bool)
            → is_square m (ray_from p (upright_normal up))
            (at_depth (ray_from p (upright_normal up)) (depth z))
            ≡ true
        square_there true = refl
        square_there false = refl

    start_is : depth x0 ≡ ray_start
    start_is = ap (λ k. rational k (pos 1)) (none x0)
      where
        none : (z : ℤ) → z -ℤ z ≡ pos 0
        none z = omega (arith, ints)

    depths_stand : (z : ℤ) (zs : List ℤ) → Stands z zs → IsOneOf (depth z) (depths_of (map placed_at zs))
    depths_stand z [] there = absurd there
    depths_stand z (y ∷ ys) (inl same) =
        (depth y, inl refl, ap (λ k. cross (depth k) (depth y)) same ∙ cross-self (depth y))
    depths_stand z (y ∷ ys) (inr later) =
        let at = depths_stand z ys later in (at.0, inr at.1, at.2)

    abbrev IsPlacedAt : Arrow → Type 0
    IsPlacedAt t = IsRational t × (IsAtMost t ray_start ⊎ IsOneOf t (depths_of steps))

    placed_position : (z : ℤ) → IsCounted x0 heights z → IsPlacedAt (depth z)
    placed_position z counted = (omega (arith, ints), by (less_or_not x0 z))
      where
        by : (x0 <ℤ z) ⊎ (z ≤ℤ x0)
            → IsAtMost (depth z) ray_start ⊎ IsOneOf (depth z) (depths_of steps)
        by (inl more) = inr (depths_stand z heights (counted more))
        by (inr behind) =
            inl
            (subst (IsAtMost (depth z)) start_is
            (at_most_from (pos 0) (cross (depth z) (depth x0))
            (up_to_whole z x0 ∙ test_at_most z x0 behind)))

    placed_ends : (present : Bool) (s : Upright)
        → (present ≡ true
        → IsCounted x0 heights (entry_along (upright_normal up) s)
        × IsCounted x0 heights (exit_along (upright_normal up) s))
        → AllByRecursion IsPlacedAt (ends_if present s)
    placed_ends true s counted =
        let both = counted refl in (
          placed_position (entry_along (upright_normal up) s) both.0,
          (placed_position (exit_along (upright_normal up) s) both.1, tt),
        )
    placed_ends false s counted = tt

    placed : (q : Standing) → AllByRecursion IsPlacedAt (values q)
    placed (the_space s) = of_found (space_numbered m s.number) refl
      where
        of_found : (o : Option Space) → space_numbered m s.number ≡ o
            → AllByRecursion IsPlacedAt (of_space_there o)
        of_found None found = tt
        of_found (Some t) found =
            placed_ends (is_present passed t.number) t.prism
            (have.spaces t (found_stands (λ x. x.number == s.number) m.spaces t found))
    placed (the_element e) = of_found (element_numbered m e.number) refl
      where
        of_found : (o : Option Element) → element_numbered m e.number ≡ o
            → AllByRecursion IsPlacedAt (of_element_there o)
        of_found None found = tt
        of_found (Some f) found =
            placed_ends (is_present passed f.number) f.prism
            (have.elements f (found_stands (λ x. x.number == e.number) m.elements f found))
    placed the_ground =
        (placed_position (ground_along (upright_normal up) m.ground_height) have.earth, tt)

    sees : SeesProducts m (ray_from p (upright_normal up)) x0 (bare_around up) values
    sees = record {
      lies = rays_lie_in_extents m (ray_from p (upright_normal up)) valid p_is some;
      starts = starts;
      bare_is = bare_is_open up;
      has = sees_by_heights;
    }
      where
        bare_is_open : (up t : Bool) → IsOpen (bare_around up t)
        bare_is_open true true = tt
        bare_is_open true false = tt
        bare_is_open false true = tt
        bare_is_open false false = tt

    are_borders : AreBorders m (ray_from p (upright_normal up)) x0 (bare_around up) values sees
        (label_behind m (upright_normal up) passed x0) steps
    are_borders = record {
      rise =
          subst (λ s. Rise (Some s) (depths_of (map placed_at heights))) start_is
          (depths_rise x0 heights have.above have.rise);
      placed = placed;
      first =
          label_is_behind x0
          ∙ ap (λ s. label_of_present m (bare_around up) (present_after values s)) start_is;
      labels = labels_are heights;
      ends = ends_are heights;
    }

    -- the labels along the ray, and its stretches
    pub column_through : HasColumn m (ray_from p (upright_normal up)) x0
        (stretches_through m (upright_normal up) passed x0 heights)
    column_through =
        subst
        (λ bs.
        HasColumn m (ray_from p (upright_normal up)) x0
        (stretches_of (label_behind m (upright_normal up) passed x0) bs))
        (borders_are heights)
        (column_there m (ray_from p (upright_normal up)) x0 (bare_around up) values sees
        (label_behind m (upright_normal up) passed x0) steps are_borders)

    -- a ray up or down has passages
    pub passages_through : (breaks : List (Break Label))
        × ArePassages m (ray_from p (upright_normal up)) breaks
    passages_through =
        passages_there m (ray_from p (upright_normal up)) x0 (bare_around up) values sees
        (label_behind m (upright_normal up) passed x0) steps are_borders

    -- its walk is what is read between the heights of its gap
    pub walk_through : (w : Walk)
        → IsWalkOf m (ray_from p (upright_normal up)) w
        ↔ (course_of w
        ≡ read m (upright_normal up) x0 x0
        (stretches_through m (upright_normal up) passed x0 heights))
    walk_through w =
        subst
        (λ bs.
        IsWalkOf m (ray_from p (upright_normal up)) w
        ↔ (course_of w
        ≡ read m (upright_normal up) x0 x0
        (stretches_of (label_behind m (upright_normal up) passed x0) bs)))
        (borders_are heights)
        (walk_is_read_over m (ray_from p (upright_normal up)) x0 (bare_around up) values sees
        (label_behind m (upright_normal up) passed x0) steps are_borders w)
