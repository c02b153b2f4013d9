-- On a level ray the space of a side ends where the ray begins, and where a space begins behind a square end
-- it has a side that faces back.
use Rattle.std.proofs.Common.{◌≡◌, refl, sym, ap, ap₂, ◌∙◌, arith, inl, inr, ℕ, ℤ, pos}
use Rattle.std.proofs.Common.{◌<ℤ◌, ◌==◌, Bool, true, false, not, cond, ◌&&◌, ◌||◌, IsTrue}
use Rattle.std.proofs.Common.{List, [], ◌∷◌, ◌++◌, if◌then◌else◌}
use Rattle.std.specs.Ordering.{int_eq}
use Rattle.std.specs.List.{AllByRecursion, list_any, list_all}
use Rattle.std.proofs.lemmas.Int.{ints}
use Rattle.std.proofs.lemmas.Bool.{and_parts, false≢true}
use Rattle.std.proofs.lemmas.Bool.Decides.{Decides-int_eq}
use Rattle.theory_lists.specs.Members.{Stands}
use Rattle.theory_lists.specs.Parity.{differ, is_odd_number}
use Rattle.theory_lists.proofs.Blocks.{all-append}
use Rattle.theory_lists.proofs.Members.{all_follow, all_that_stand, any_stands, one_of_any}
use Rattle.theory_lists.proofs.Parity.{is_odd_number-same, is_odd_number-differ}
use Rattle.theory_lists.proofs.Parity.{odd_is_any}
use Rattle.theory_numbers.specs.Arrows.{Arrow, cross, dot}
use Rattle.theory_numbers.specs.Tests.{is_positive}
use Rattle.theory_numbers.specs.Rationals.{IsRational, IsBelow, IsAtMost, IsSame, is_below, is_at_most, rational}
use Rattle.theory_numbers.proofs.Vectors.Arrows.{cross-turn}
use Rattle.theory_numbers.proofs.Fractions.Rationals.{below_at_most_trans, same_sym}
use Rattle.theory_numbers.proofs.Signs.{same_tests, less_from, test_less}
use Rattle.theory_cuttings.specs.Changes.{moved_by}
use Rattle.theory_cuttings.specs.Columns.{is_odd_below, is_odd_up_to}
use Rattle.theory_cuttings.specs.Passages.{ray_start}
use Rattle.theory_plane.proofs.Clearance.{value_on-IsRational}
use Rattle.sb_fraction.specs.Edges.{Edge, span_of, is_on}
use Rattle.sb_fraction.specs.Crossings.{ends_over}
use Rattle.sb_fraction.specs.Lines.{flat, line_over, reaches_past}
use Rattle.sb_fraction.specs.Spots.{Spot, IsSpot, inner}
use Rattle.theory_plans.specs.LoopEdges.{edges_of}
use Rattle.theory_plans.specs.Plans.{is_plan}
use Rattle.sb_model.specs.declared.products.Space.{Space}
use Rattle.sb_model.specs.Building.{Building, is_building}
use Rattle.sb_model.specs.Passages.{ray_from, at_depth}
use Rattle.sb_model.specs.PlanEdges.{PlanEdge, plan_edges, products_of, is_abscissa}
use Rattle.sb_model.specs.Solids.{is_between_heights}
use Rattle.sb_model.specs.Walks.{is_across, is_square}
use Rattle.theory_models.proofs.EdgesOfProducts.{plan_of_solid}
use Rattle.theory_models.proofs.NumbersApart.{of_space, space_stands}
use Rattle.theory_parity.specs.Below.{IsWay, value_of, is_lower_at, is_up_to_at, is_through}
use Rattle.theory_parity.proofs.Rays.BelowFlips.{reaching_is_line}
use Rattle.theory_parity.proofs.InsideByValues.{HoldsNoEnd, at_most_one_at, on_is_through, up_to_by_cases}
use Rattle.theory_parity.proofs.SolidOnTheLeft.SensesAlternate.{senses_alternate}
use Rattle.theory_gaps.proofs.EdgesAtANumber.{no_end_over}
use Rattle.theory_gaps.proofs.Rays.LabelsAlongTheNormal.{IsRow, plan_edge, edge_stands, own_depths, odd_in_row}
use Rattle.theory_gaps.proofs.Rays.LabelsAlongTheNormal.{below_moved, up_to_moved, of_prism, ray_is_way, depth_of}
use Rattle.theory_gaps.proofs.Rays.PointsOnTheRay.{frame_of, abscissa, on_at}
use Rattle.theory_mirrors.proofs.RaysOfFaces.SpacesAlongARay.{SeesSpaces, EndsAtStart, BeginsAt}
use Rattle.theory_sight.specs.Crossings.{StartsAt}

-- the order to a number is that to the same number
below_the_same : (t v w : Arrow) → IsRational t → IsRational v → IsRational w → IsSame v w
    → is_below t v ≡ is_below t w
below_the_same t v w t_in v_in w_in same =
    same_tests (is_below t v) (is_below t w)
    (λ answer.
    test_less (pos 0) (cross t w)
    (below_at_most_trans t v w t_in v_in w_in (less_from (pos 0) (cross t v) answer)
    (omega (arith, ints, same))))
    (λ answer.
    let turn = cross-turn v w in
    test_less (pos 0) (cross t v)
    (below_at_most_trans t w v t_in w_in v_in (less_from (pos 0) (cross t w) answer)
    (omega (arith, ints, same))))

module _ (m : Building) (valid : IsTrue (is_building m)) (b : Arrow) (p : Spot) (x0 : ℤ)
    (starts : StartsAt (ray_from p (flat b)) x0) (p_is : IsSpot p)
    (some : pos 0 <ℤ inner (flat b) (flat b)) (passed row : List PlanEdge)
    (is : IsRow m (frame_of b) (abscissa b p x0 starts) x0 passed row)
    (none : is_abscissa m (flat (frame_of b)) (abscissa b p x0 starts) ≡ false) where
  abbrev d : Arrow
  d = frame_of b

  abbrev u : Arrow
  u = abscissa b p x0 starts

  abbrev own : ℕ → List PlanEdge → List Arrow
  own n es = own_depths m valid b p x0 starts p_is some passed row is none n es

  way_is : IsWay (frame_of b)
  way_is = ray_is_way m valid b p x0 starts p_is some passed row is none

  value_in : (e : Edge) → reaches_past d u e ≡ true → IsRational (value_of d u e)
  value_in e past = value_on-IsRational (line_over d e) u (reaching_is_line d u e past) p_is

  -- the values of a space: the depths of its edges, at its heights
  abbrev level_values : Space → List Arrow
  level_values s =
      if is_between_heights s.prism.z0 s.prism.z1 p then own s.number (passed ++ row) else []

  own_rational : (n : ℕ) (es : List PlanEdge)
      → AllByRecursion (λ e. reaches_past d u e.edge ≡ true) es → AllByRecursion IsRational (own n es)
  own_rational n [] over = tt
  own_rational n (e ∷ es) over = by (e.product == n) (own_rational n es over.1)
    where
      by : (t : Bool) → AllByRecursion IsRational (own n es)
          → AllByRecursion IsRational
          (cond t (depth_of m valid b p x0 starts p_is some passed row is none e ∷ own n es)
          (own n es))
      by true rest = (value_in e.edge over.0, rest)
      by false rest = rest

  -- the spaces of the model on the ray
  pub sees_spaces : SeesSpaces m (ray_from p (flat b))
  sees_spaces = record {
    model = valid;
    start = p_is;
    some = some;
    values = level_values;
    rational = λ s s_in. at_heights s.number (is_between_heights s.prism.z0 s.prism.z1 p);
    solid_is =
        λ s s_in t t_in.
        of_prism m valid b p x0 starts p_is some passed row is none (of_space s) (space_stands m s s_in)
        s.is_solid t t_in;
  }
    where
      over_all : AllByRecursion (λ e. reaches_past d u e.edge ≡ true) (passed ++ row)
      over_all =
          all-append (λ e. reaches_past d u e.edge ≡ true) passed row
          (all_follow
          {P = λ e.
          Stands e (plan_edges m)
          × ((reaches_past d u e.edge ≡ true)
          × IsAtMost (value_of d u e.edge) (rational x0 (pos 1)))}
          {Q = λ e. reaches_past d u e.edge ≡ true} (λ e at. at.1.0) passed is.behind)
          (all_follow
          {P = λ e.
          Stands e (plan_edges m)
          × ((reaches_past d u e.edge ≡ true)
          × IsBelow (rational x0 (pos 1)) (value_of d u e.edge))}
          {Q = λ e. reaches_past d u e.edge ≡ true} (λ e at. at.1.0) row is.ahead)

      at_heights : (n : ℕ) (high : Bool)
          → AllByRecursion IsRational (cond high (own n (passed ++ row)) [])
      at_heights n true = own_rational n (passed ++ row) over_all
      at_heights n false = tt

  -- ---- the edges of one space

  module _ (s : Space) (s_in : Stands s m.spaces) (t : Arrow) (t_in : IsRational t) where
    abbrev v : Arrow
    v = moved_by x0 t

    plan : IsTrue (is_plan s.prism.loops)
    plan = plan_of_solid s.prism s.is_solid

    no_end : HoldsNoEnd d u (edges_of s.prism.loops)
    no_end =
        all_that_stand (λ e. ends_over (flat d) u e ≡ false) (edges_of s.prism.loops)
        (λ e e_in.
        no_end_over m d u way_is p_is none (plan_edge e s.number)
        (edge_stands e (of_space s) (products_of m) (space_stands m s s_in) e_in))

    -- below a depth lie as many of its values as edges below the position
    below_is : is_odd_below (own s.number (passed ++ row)) t
        ≡ is_odd_number (is_lower_at d u v) (edges_of s.prism.loops)
    below_is =
        odd_in_row m valid b p x0 starts p_is some passed row is none (of_space s)
        (space_stands m s s_in) (λ w. is_below w t) (λ e. is_below (value_of d u e) v)
        (below_moved m valid b p x0 starts p_is some passed row is none t)

    up_to_is : is_odd_up_to (own s.number (passed ++ row)) t
        ≡ differ (is_odd_number (is_lower_at d u v) (edges_of s.prism.loops))
        (is_odd_number (is_through d u v) (edges_of s.prism.loops))
    up_to_is =
        odd_in_row m valid b p x0 starts p_is some passed row is none (of_space s)
        (space_stands m s s_in) (λ w. is_at_most w t) (λ e. is_at_most (value_of d u e) v)
        (up_to_moved m valid b p x0 starts p_is some passed row is none t)
        ∙ is_odd_number-same (is_up_to_at d u v)
        (λ e. differ (is_lower_at d u v e) (is_through d u v e)) (up_to_by_cases d u v)
        (edges_of s.prism.loops)
        ∙ is_odd_number-differ (is_lower_at d u v) (is_through d u v) (edges_of s.prism.loops)

    -- an edge through the position tells by its sense how many lie below it
    below_edge : (e : Edge) → Stands e (edges_of s.prism.loops) → is_through d u v e ≡ true
        → is_odd_number (is_lower_at d u v) (edges_of s.prism.loops)
        ≡ not (is_positive (dot d (span_of e)))
    below_edge e e_in through =
        let parts =
        and_parts (reaches_past d u e) (int_eq (cross (value_of d u e) v) (pos 0)) through
        in
        let same = (Decides-int_eq (cross (value_of d u e) v) (pos 0)).0 parts.1 in
        is_odd_number-same (is_lower_at d u v) (is_lower_at d u (value_of d u e))
        (λ g. lower_same g (reaches_past d u g) refl (value_in e parts.0)
        (same_sym (value_of d u e) v same))
        (edges_of s.prism.loops)
        ∙ senses_alternate d u way_is p_is e parts.0
        (no_end_over m d u way_is p_is none (plan_edge e s.number)
        (edge_stands e (of_space s) (products_of m) (space_stands m s s_in) e_in))
        s.prism.loops plan e_in
      where
        lower_same : (g : Edge) (past : Bool) → reaches_past d u g ≡ past
            → IsRational (value_of d u e) → IsSame v (value_of d u e)
            → (reaches_past d u g && is_below (value_of d u g) v)
            ≡ (reaches_past d u g && is_below (value_of d u g) (value_of d u e))
        lower_same g true past e_rational same =
            ap (λ c. reaches_past d u g && c)
            (below_the_same (value_of d u g) v (value_of d u e) (value_in g past) t_in e_rational same)
        lower_same g false past e_rational same =
            ap (λ c. c && is_below (value_of d u g) v) past
            ∙ sym (ap (λ c. c && is_below (value_of d u g) (value_of d u e)) past)

    one_through : is_odd_number (is_through d u v) (edges_of s.prism.loops)
        ≡ list_any (is_through d u v) (edges_of s.prism.loops)
    one_through =
        odd_is_any (is_through d u v) (edges_of s.prism.loops)
        (at_most_one_at s.prism.loops plan d u way_is p_is no_end v t_in)

  -- ---- the space of the side

  -- where an edge of a space passes through the ray's start, against the frame, and the space has the height
  -- of the ray, the space ends there
  pub ends_at_start : (s : Space) → Stands s m.spaces → (e : Edge) → Stands e (edges_of s.prism.loops)
      → is_through d u (moved_by x0 ray_start) e ≡ true → is_positive (dot d (span_of e)) ≡ false
      → is_between_heights s.prism.z0 s.prism.z1 p ≡ true
      → EndsAtStart m (ray_from p (flat b)) sees_spaces s
  unfolding sees_spaces
  ends_at_start s s_in e e_in through against high = record {
    in_model = s_in;
    below =
        ap
        (λ c. is_odd_below (cond c (own s.number (passed ++ row)) []) ray_start) high
        ∙ lower;
    up_to =
        ap
        (λ c. is_odd_up_to (cond c (own s.number (passed ++ row)) []) ray_start) high
        ∙ up_to_is s s_in ray_start start_in
        ∙ ap₂ differ (sym (below_is s s_in ray_start start_in) ∙ lower)
        (one_through s s_in ray_start start_in
        ∙ any_stands (is_through d u (moved_by x0 ray_start)) e (edges_of s.prism.loops) e_in through);
  }
    where
      start_in : IsRational ray_start
      start_in = omega (arith, ints)

      lower : is_odd_below (own s.number (passed ++ row)) ray_start ≡ true
      lower =
          below_is s s_in ray_start start_in
          ∙ below_edge s s_in ray_start start_in e e_in through ∙ ap not against

  -- ---- a space that begins

  -- an edge of a space through a position, along the frame and across the ray
  pub record FacesBack (s : Space) (at : Arrow) : Type 0 where
    pub edge : Edge
    pub stands : Stands edge (edges_of s.prism.loops)
    pub through : is_through (frame_of b) (abscissa b p x0 starts) (moved_by x0 at) edge ≡ true
    pub on : is_on (at_depth (ray_from p (flat b)) at) edge ≡ true
    pub along : is_positive (dot (frame_of b) (span_of edge)) ≡ true
    pub across : is_across (flat b) edge ≡ true
    pub high : is_between_heights s.prism.z0 s.prism.z1 p ≡ true

  -- a space that begins at a depth where the ray is square has such an edge
  pub faces_back : (k : ℕ) (at : Arrow) → IsRational at
      → (begins : BeginsAt m (ray_from p (flat b)) sees_spaces k at)
      → is_square m (ray_from p (flat b)) (at_depth (ray_from p (flat b)) at) ≡ true
      → FacesBack begins.space at
  unfolding sees_spaces
  faces_back k at at_in begins square_there =
      by (is_between_heights begins.space.prism.z0 begins.space.prism.z1 p) refl begins.below
      begins.up_to
    where
      s : Space
      s = begins.space

      negated_true : (c : Bool) → not c ≡ false → c ≡ true
      negated_true true same = refl
      negated_true false same = sym same

      some_through : is_odd_number (is_through d u (moved_by x0 at)) (edges_of s.prism.loops) ≡ true
          → (e : Edge) × (Stands e (edges_of s.prism.loops)
          × (is_through d u (moved_by x0 at) e ≡ true))
      some_through odd =
          one_of_any (is_through d u (moved_by x0 at)) (edges_of s.prism.loops)
          (sym (one_through s begins.in_model at at_in) ∙ odd)

      all_test : (test : PlanEdge → Bool) (es : List PlanEdge) → list_all test es ≡ true
          → (g : PlanEdge) → Stands g es → test g ≡ true
      all_test test [] all g there = absurd there
      all_test test (f ∷ fs) all g (inl same) =
          ap test same ∙ (and_parts (test f) (list_all test fs) all).0
      all_test test (f ∷ fs) all g (inr later) =
          all_test test fs (and_parts (test f) (list_all test fs) all).1 g later

      of_edge : is_between_heights s.prism.z0 s.prism.z1 p ≡ true
          → is_odd_number (is_lower_at d u (moved_by x0 at)) (edges_of s.prism.loops) ≡ false
          → (e : Edge) × (Stands e (edges_of s.prism.loops)
          × (is_through d u (moved_by x0 at) e ≡ true))
          → FacesBack s at
      of_edge high lower (e, (e_in, through)) =
          let g_in =
          edge_stands e (of_space s) (products_of m) (space_stands m s begins.in_model) e_in
          in
          let on_it : is_on (at_depth (ray_from p (flat b)) at) e ≡ true =
          on_at b p x0 starts e at
          ∙ on_is_through d u (moved_by x0 at) way_is p_is at_in e
          (no_end_over m d u way_is p_is none (plan_edge e s.number) g_in)
          ∙ through in
          record {
            edge = e;
            stands = e_in;
            through = through;
            on = on_it;
            along =
                negated_true (is_positive (dot d (span_of e)))
                (sym (below_edge s begins.in_model at at_in e e_in through) ∙ lower);
            across =
                sym (ap (λ c. not c || is_across (flat b) e) on_it)
                ∙ all_test
                (λ g.
                not (is_on (at_depth (ray_from p (flat b)) at) g.edge) || is_across (flat b) g.edge)
                (plan_edges m) square_there (plan_edge e s.number) g_in;
            high = high;
          }

      by : (high : Bool) → is_between_heights s.prism.z0 s.prism.z1 p ≡ high
          → is_odd_below (cond high (own s.number (passed ++ row)) []) at ≡ false
          → is_odd_up_to (cond high (own s.number (passed ++ row)) []) at ≡ true
          → FacesBack s at
      by false high below up_to = absurd (false≢true up_to)
      by true high below up_to =
          let lower = sym (below_is s begins.in_model at at_in) ∙ below in
          of_edge high lower
          (some_through
          (sym
          (ap
          (λ c. differ c (is_odd_number (is_through d u (moved_by x0 at)) (edges_of s.prism.loops)))
          lower)
          ∙ sym (up_to_is s begins.in_model at at_in) ∙ up_to))
