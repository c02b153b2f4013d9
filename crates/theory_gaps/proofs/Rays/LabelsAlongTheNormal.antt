-- A product stands on a level ray where an odd number of its edges have a lesser position, and an odd
-- number at most this position: so the ray sees products by their edges' positions.
use Rattle.std.proofs.Common.{◌≡◌, refl, sym, ap, ap₂, ◌∙◌, arith, ℕ, ℤ, pos, neg_ℤ, ◌<ℤ◌, ◌==◌, Bool, true}
use Rattle.std.proofs.Common.{false, ◌&&◌, cond, IsTrue, List, [], ◌∷◌, ◌++◌, if◌then◌else◌, int_le, map}
use Rattle.std.proofs.Common.{Some, inl, inr, subst}
use Rattle.std.specs.List.{AllByRecursion}
use Rattle.std.proofs.lemmas.Int.{ints}
use Rattle.theory_lists.specs.Members.{Stands, AllOfTwo}
use Rattle.theory_lists.specs.Parity.{differ, is_odd_number}
use Rattle.theory_lists.proofs.Blocks.{stands_before, stands_behind}
use Rattle.theory_lists.proofs.Members.{all_that_stand}
use Rattle.theory_lists.proofs.Parity.{is_odd_number-append, is_odd_number-same}
use Rattle.theory_numbers.specs.Arrows.{Arrow}
use Rattle.theory_numbers.specs.Tests.{is_positive}
use Rattle.theory_numbers.specs.Rationals.{IsRational, IsBelow, IsAtMost, is_below, is_at_most, rational}
use Rattle.theory_cuttings.specs.Changes.{moved_by}
use Rattle.theory_cuttings.specs.Columns.{is_odd_below, is_odd_up_to, HasLabelOfPresent}
use Rattle.theory_cuttings.proofs.Moved.{cross-moved_back}
use Rattle.sb_fraction.specs.Spots.{Spot, IsSpot, inner}
use Rattle.sb_fraction.specs.Edges.{Edge}
use Rattle.sb_fraction.specs.Crossings.{ends_over}
use Rattle.sb_fraction.specs.Lines.{flat, reaches_past}
use Rattle.theory_plans.specs.LoopEdges.{edges_of}
use Rattle.theory_plans.specs.Inside.{is_in_plan}
use Rattle.sb_model.specs.declared.labels.label.Label.{Label}
use Rattle.sb_model.specs.declared.labels.label.Label.TheVariants as label
use Rattle.sb_model.specs.declared.products.Space.{Space}
use Rattle.sb_model.specs.declared.products.Element.{Element}
use Rattle.sb_model.specs.Solids.{is_upright, is_in_solid, is_between_heights}
use Rattle.sb_model.specs.Building.{Building, is_building}
use Rattle.sb_model.specs.Labels.{lower_of, lowest, open_label}
use Rattle.sb_model.specs.PlanEdges.{Product, PlanEdge, edges_in, plan_edges, products_of, is_abscissa}
use Rattle.sb_model.specs.Passages.{ray_from, at_depth}
use Rattle.theory_models.proofs.EdgesOfProducts.{own_edges, plan_of_solid}
use Rattle.theory_models.proofs.NumbersApart.{of_space, of_element, space_stands, element_stands}
use Rattle.theory_parity.specs.Below.{IsWay, value_of}
use Rattle.theory_parity.proofs.InsideByValues.{HoldsNoEnd, inside_by_values}
use Rattle.theory_sight.specs.Coarse.{coarse, element_or, space_or, stacked, Standing}
use Rattle.theory_sight.specs.Coarse.{the_space, the_element, the_ground, label_of_present}
use Rattle.theory_sight.proofs.Stacked.{coarse_is_stacked}
use Rattle.theory_gaps.proofs.EdgesAtANumber.{no_end_over}
use Rattle.theory_gaps.proofs.Rays.PointsOnTheRay.{frame_of, abscissa, unit_is, inside_at, height_at}
use Rattle.theory_gaps.proofs.Rays.PointsOnTheRay.{ground_at}
use Rattle.theory_sight.specs.Crossings.{StartsAt, label_along}

-- ---- labels by tests

-- tests that answer alike on the items have one lowest item
pub lowest_where_same : {X : Type 0} (number : X → ℕ) (f g : X → Bool) (xs : List X)
    → AllByRecursion (λ x. f x ≡ g x) xs → lowest number f xs ≡ lowest number g xs
lowest_where_same number f g [] same = refl
lowest_where_same number f g (x ∷ xs) same =
    ap₂ (λ b o. cond b (Some (lower_of number x o)) o) same.0
    (lowest_where_same number f g xs same.1)

-- the coarse label sees the tests of the model's products alone
pub stacked_where_same : (m : Building) (p q : Space → Bool) (d e : Element → Bool) (a b : Label)
    → ((s : Space) → Stands s m.spaces → p s ≡ q s)
    → ((f : Element) → Stands f m.elements → d f ≡ e f) → a ≡ b
    → stacked m p d a ≡ stacked m q e b
stacked_where_same m p q d e a b spaces elements bare =
    ap₂ space_or
    (ap₂ element_or bare
    (lowest_where_same (λ f. f.number) d e m.elements
    (all_that_stand (λ f. d f ≡ e f) m.elements elements)))
    (lowest_where_same (λ s. s.number) p q m.spaces
    (all_that_stand (λ s. p s ≡ q s) m.spaces spaces))

-- ---- edges of a product

stands_mapped : {X Y : Type 0} (f : X → Y) (x : X) (xs : List X) → Stands x xs
    → Stands (f x) (map f xs)
stands_mapped f x [] there = absurd there
stands_mapped f x (y ∷ ys) (inl same) = inl (ap f same)
stands_mapped f x (y ∷ ys) (inr later) = inr (stands_mapped f x ys later)

-- the edge of a product as a plan edge
abbrev pub plan_edge : Edge → ℕ → PlanEdge
plan_edge e n = record { edge = e; product = n }

-- the edges of a product stand among the plan edges
pub edge_stands : (e : Edge) (q : Product) (ps : List Product) → Stands q ps
    → Stands e (edges_of q.prism.loops) → Stands (plan_edge e q.number) (edges_in ps)
edge_stands e q [] q_in e_in = absurd q_in
edge_stands e q (r ∷ ps) (inl same) e_in =
    subst (λ (x : Product). Stands (plan_edge e x.number) (edges_in (r ∷ ps))) (sym same)
    (stands_before (plan_edge e r.number)
    (map (λ f. plan_edge f r.number) (edges_of r.prism.loops)) (edges_in ps)
    (stands_mapped (λ f. plan_edge f r.number) e (edges_of r.prism.loops)
    (subst (λ (x : Product). Stands e (edges_of x.prism.loops)) same e_in)))
edge_stands e q (r ∷ ps) (inr later) e_in =
    stands_behind (plan_edge e q.number)
    (map (λ f. plan_edge f r.number) (edges_of r.prism.loops)) (edges_in ps)
    (edge_stands e q ps later e_in)

-- ---- rows of edges

-- the edges that a ray comes to, over the abscissa u of its frame: those passed at position x0 and
-- before, and those behind, in rising order
pub record IsRow (m : Building) (d u : Arrow) (x0 : ℤ) (passed row : List PlanEdge) : Type 0 where
  pub whole : (test : PlanEdge → Bool)
      → differ (is_odd_number test passed) (is_odd_number test row)
      ≡ is_odd_number (λ e. reaches_past d u e.edge && test e) (plan_edges m)
  pub behind : AllByRecursion
      (λ e. Stands e (plan_edges m)
      × ((reaches_past d u e.edge ≡ true)
      × IsAtMost (value_of d u e.edge) (rational x0 (pos 1)))) passed
  pub ahead : AllByRecursion
      (λ e. Stands e (plan_edges m)
      × ((reaches_past d u e.edge ≡ true)
      × IsBelow (rational x0 (pos 1)) (value_of d u e.edge))) row
  pub rise : AllOfTwo (λ e f. IsAtMost (value_of d u e.edge) (value_of d u f.edge)) row

module _ (m : Building) (valid : IsTrue (is_building m)) (b : Arrow) (p : Spot) (x0 : ℤ)
    (starts : StartsAt (ray_from p (flat b)) x0) (p_is : IsSpot p)
    (some : pos 0 <ℤ inner (flat b) (flat b)) (passed row : List PlanEdge)
    (is : IsRow m (frame_of b) (abscissa b p x0 starts) x0 passed row)
    (none : is_abscissa m (flat (frame_of b)) (abscissa b p x0 starts) ≡ false) where
  abbrev pub d : Arrow
  d = frame_of b

  abbrev pub u : Arrow
  u = abscissa b p x0 starts

  -- the depth of an edge
  abbrev pub depth_of : PlanEdge → Arrow
  depth_of e = moved_by (neg_ℤ x0) (value_of d u e.edge)

  -- the depths of the edges of one product
  abbrev pub own_depths : ℕ → List PlanEdge → List Arrow
  own_depths n [] = []
  own_depths n (e ∷ es) = if e.product == n then depth_of e ∷ own_depths n es else own_depths n es

  -- of some values, those that pass a test
  pub odd_of_own : (n : ℕ) (test : Arrow → Bool) (es : List PlanEdge)
      → is_odd_number test (own_depths n es)
      ≡ is_odd_number (λ e. (e.product == n) && test (depth_of e)) es
  odd_of_own n test [] = refl
  odd_of_own n test (e ∷ es) = by (e.product == n) (odd_of_own n test es)
    where
      by : (t : Bool) → is_odd_number test (own_depths n es)
          ≡ is_odd_number (λ f. (f.product == n) && test (depth_of f)) es
          → is_odd_number test (cond t (depth_of e ∷ own_depths n es) (own_depths n es))
          ≡ differ (t && test (depth_of e))
          (is_odd_number (λ f. (f.product == n) && test (depth_of f)) es)
      by true rest = ap (differ (test (depth_of e))) rest
      by false rest = rest

  -- the values of what stands on the ray
  abbrev pub values : Standing → List Arrow
  values (the_space s) =
      if is_between_heights s.prism.z0 s.prism.z1 p then own_depths s.number (passed ++ row) else []
  values (the_element e) =
      if is_between_heights e.prism.z0 e.prism.z1 p then own_depths e.number (passed ++ row) else []
  values the_ground = []

  -- earth or air, everywhere on the ray
  abbrev pub bare : Bool → Label
  bare behind = open_label m.ground_height p

  -- an odd number of a product's edges among those of the row
  pub odd_in_row : (q : Product) → Stands q (products_of m) → (test : Arrow → Bool) (own : Edge → Bool)
      → ((e : PlanEdge) → test (depth_of e) ≡ own e.edge)
      → is_odd_number test (own_depths q.number (passed ++ row))
      ≡ is_odd_number (λ e. reaches_past d u e && own e) (edges_of q.prism.loops)
  odd_in_row q q_in test own same =
      odd_of_own q.number test (passed ++ row)
      ∙ is_odd_number-same (λ e. (e.product == q.number) && test (depth_of e))
      (λ e. (e.product == q.number) && own e.edge)
      (λ e. ap (λ t. (e.product == q.number) && t) (same e)) (passed ++ row)
      ∙ is_odd_number-append (λ e. (e.product == q.number) && own e.edge) passed row
      ∙ is.whole (λ e. (e.product == q.number) && own e.edge)
      ∙ is_odd_number-same (λ e. reaches_past d u e.edge && ((e.product == q.number) && own e.edge))
      (λ e. (e.product == q.number) && (reaches_past d u e.edge && own e.edge))
      (λ e. exchanged (reaches_past d u e.edge) (e.product == q.number) (own e.edge)) (plan_edges m)
      ∙ own_edges m valid q q_in (λ e. reaches_past d u e && own e)
    where
      exchanged : (r s t : Bool) → (r && (s && t)) ≡ (s && (r && t))
      exchanged true s t = refl
      exchanged false true t = refl
      exchanged false false t = refl

  -- an edge lies below a depth where its value lies below the position
  pub below_moved : (t : Arrow) (e : PlanEdge)
      → is_below (depth_of e) t ≡ is_below (value_of d u e.edge) (moved_by x0 t)
  below_moved t e = ap is_positive (sym (cross-moved_back x0 (value_of d u e.edge) t))

  pub up_to_moved : (t : Arrow) (e : PlanEdge)
      → is_at_most (depth_of e) t ≡ is_at_most (value_of d u e.edge) (moved_by x0 t)
  up_to_moved t e = ap (int_le (pos 0)) (sym (cross-moved_back x0 (value_of d u e.edge) t))

  -- the frame is one
  pub ray_is_way : IsWay d
  ray_is_way = omega (arith, ints, some, unit_is b p x0 starts)

  -- a product of the model stands at a depth where an odd number of its values lie below it, and an odd
  -- number at it or below
  pub inside_by_depths : (q : Product) → Stands q (products_of m) → IsTrue (is_upright q.prism)
      → (t : Arrow) → IsRational t
      → is_in_plan q.prism.loops (at_depth (ray_from p (flat b)) t)
      ≡ (is_odd_below (own_depths q.number (passed ++ row)) t
      && is_odd_up_to (own_depths q.number (passed ++ row)) t)
  inside_by_depths q q_in solid t t_in =
      inside_at b p x0 starts q.prism.loops t
      ∙ inside_by_values q.prism.loops (plan_of_solid q.prism solid) d u ray_is_way p_is no_end
      (moved_by x0 t) t_in
      ∙ sym (ap₂ (λ r s. r && s)
      (odd_in_row q q_in (λ v. is_below v t) (λ e. is_below (value_of d u e) (moved_by x0 t))
      (below_moved t))
      (odd_in_row q q_in (λ v. is_at_most v t) (λ e. is_at_most (value_of d u e) (moved_by x0 t))
      (up_to_moved t)))
    where
      no_end : HoldsNoEnd d u (edges_of q.prism.loops)
      no_end =
          all_that_stand (λ e. ends_over (flat d) u e ≡ false) (edges_of q.prism.loops)
          (λ e e_in.
          no_end_over m d u ray_is_way p_is none (plan_edge e q.number)
          (edge_stands e q (products_of m) q_in e_in))

  -- what is present at a depth
  abbrev pub present_at : Arrow → Standing → Bool
  present_at t q = is_odd_below (values q) t && is_odd_up_to (values q) t

  -- a product stands at a depth where it does so between its edges' depths, at its heights
  pub of_prism : (q : Product) → Stands q (products_of m) → IsTrue (is_upright q.prism) → (t : Arrow)
      → IsRational t
      → is_in_solid q.prism (at_depth (ray_from p (flat b)) t)
      ≡ (is_odd_below
      (if is_between_heights q.prism.z0 q.prism.z1 p then own_depths q.number (passed ++ row) else [])
      t
      && is_odd_up_to
      (if is_between_heights q.prism.z0 q.prism.z1 p then own_depths q.number (passed ++ row) else [])
      t)
  of_prism q q_in solid t t_in =
      ap₂ (λ r s. r && s) (inside_by_depths q q_in solid t t_in)
      (height_at b p x0 starts p_is some t t_in q.prism.z0 q.prism.z1)
      ∙ by (is_between_heights q.prism.z0 q.prism.z1 p)
    where
      and_true : (r : Bool) → (r && true) ≡ r
      and_true true = refl
      and_true false = refl

      and_false : (r : Bool) → (r && false) ≡ false
      and_false true = refl
      and_false false = refl

      by : (t' : Bool)
          → ((is_odd_below (own_depths q.number (passed ++ row)) t
          && is_odd_up_to (own_depths q.number (passed ++ row)) t) && t')
          ≡ (is_odd_below (cond t' (own_depths q.number (passed ++ row)) []) t
          && is_odd_up_to (cond t' (own_depths q.number (passed ++ row)) []) t)
      by true = and_true _
      by false = and_false _

  -- the ray sees products by these values
  pub sees_by_depths : HasLabelOfPresent (λ t. coarse (label_along m (ray_from p (flat b)) t))
      (label_of_present m bare) values
  sees_by_depths = record {
    is_present = present_at;
    label_is =
        λ t t_in.
        coarse_is_stacked m (at_depth (ray_from p (flat b)) t)
        ∙ stacked_where_same m (λ s. is_in_solid s.prism (at_depth (ray_from p (flat b)) t))
        (λ s. present_at t (the_space s))
        (λ e. is_in_solid e.prism (at_depth (ray_from p (flat b)) t))
        (λ e. present_at t (the_element e))
        (open_label m.ground_height (at_depth (ray_from p (flat b)) t)) (open_label m.ground_height p)
        (λ s s_in. of_prism (of_space s) (space_stands m s s_in) s.is_solid t t_in)
        (λ e e_in. of_prism (of_element e) (element_stands m e e_in) e.is_solid t t_in)
        (ap (λ t'. if t' then label.Earth else label.Void)
        (ground_at b p x0 starts p_is some t t_in m.ground_height));
    present_is = λ t t_in q same. both (is_odd_below (values q) t) (is_odd_up_to (values q) t) same;
  }
    where
      both : (r s : Bool) → r ≡ s → (r && s) ≡ r
      both true true same = refl
      both true false same = sym same
      both false s same = refl
