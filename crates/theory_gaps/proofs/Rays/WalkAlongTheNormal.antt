-- The walk along a level ray is what is read over the row of edges that it comes to.
use Rattle.std.proofs.Common.{◌≡◌, refl, sym, ap, ap₂, ◌∙◌, arith, subst, ◌↔◌, ◌⊎◌, inl, inr, ℕ, ℤ, pos}
use Rattle.std.proofs.Common.{neg_ℤ, ◌+ℤ◌, ◌-ℤ◌, ◌*ℤ◌, ◌<ℤ◌, ◌≤ℤ◌, ◌==◌, Bool, true, false, not, ◌&&◌, ◌||◌, cond}
use Rattle.std.proofs.Common.{IsTrue, List, [], ◌∷◌, ◌++◌, Some, if◌then◌else◌}
use Rattle.std.specs.Ordering.{int_eq}
use Rattle.std.specs.List.{AllByRecursion, list_all}
use Rattle.std.proofs.lemmas.Int.{ints}
use Rattle.std.proofs.lemmas.Bool.{and_parts, and_from, false≢true}
use Rattle.std.proofs.lemmas.Bool.Decides.{Decides-int_eq}
use Rattle.theory_lists.specs.Members.{Stands, AllOfTwo}
use Rattle.theory_lists.specs.Parity.{differ, is_odd_number}
use Rattle.theory_lists.proofs.Blocks.{all-append}
use Rattle.theory_lists.proofs.Members.{all_follow}
use Rattle.theory_lists.proofs.Parity.{differ-false, differ_assoc, differ_comm, odd_where_same, is_odd_number-append}
use Rattle.theory_numbers.specs.Arrows.{Arrow, arrow, cross}
use Rattle.theory_numbers.specs.Fractions.{reduced}
use Rattle.theory_numbers.specs.Rationals.{IsRational, IsBelow, IsAtMost, IsSame, is_at_most, rational}
use Rattle.theory_numbers.proofs.Vectors.Arrows.{cross-turn}
use Rattle.theory_numbers.proofs.Fractions.LowestTerms.{lowest_is_reduced, reduced_is_lowest, reduced_is_same}
use Rattle.theory_numbers.proofs.Fractions.Rationals.{at_most_trans, at_most_refl, below_at_most_trans, number_cases}
use Rattle.theory_numbers.proofs.Fractions.Rationals.{at_most_below_trans}
use Rattle.theory_numbers.proofs.Fractions.Rationals.{at_most_from_below, below_clash, same_sym, same_trans}
use Rattle.theory_numbers.proofs.Fractions.Reduced.{fraction_unique, whole_is_reduced}
use Rattle.theory_numbers.proofs.Ring.{mul_comm}
use Rattle.theory_numbers.proofs.Shapes.{cross_eq}
use Rattle.theory_numbers.proofs.Signs.{test_at_most, test_not_at_most}
use Rattle.theory_cuttings.specs.Cuttings.{Break, IsFraction}
use Rattle.theory_cuttings.specs.Changes.{moved_by}
use Rattle.theory_cuttings.specs.Columns.{Rise, IsOneOf, present_after}
use Rattle.theory_cuttings.specs.Passages.{ray_start}
use Rattle.theory_cuttings.proofs.Columns.{AreBehindOrAhead}
use Rattle.theory_cuttings.proofs.Moved.{moved-cross, cross-moved_back, cross-moved}
use Rattle.theory_plane.proofs.Clearance.{value_on-IsRational}
use Rattle.sb_fraction.specs.Spots.{Spot, IsSpot, inner}
use Rattle.sb_fraction.specs.Edges.{is_on}
use Rattle.sb_fraction.specs.Crossings.{abscissa_at}
use Rattle.sb_fraction.specs.Lines.{flat, line_over, reaches_past}
use Rattle.sb_model.specs.declared.labels.label.Label.{Label}
use Rattle.sb_model.specs.declared.walk.Walk.{Walk}
use Rattle.sb_model.specs.Solids.{is_between_heights}
use Rattle.sb_model.specs.Building.{Building, is_building}
use Rattle.sb_model.specs.Labels.{open_label}
use Rattle.sb_model.specs.PlanEdges.{PlanEdge, plan_edges, is_abscissa}
use Rattle.sb_model.specs.Passages.{ray_from, at_depth, ArePassages}
use Rattle.sb_model.specs.Walks.{course_of, is_across, IsWalkOf}
use Rattle.theory_parity.specs.Below.{value_of, is_through}
use Rattle.theory_parity.proofs.Rays.BelowFlips.{reaching_is_line}
use Rattle.theory_parity.proofs.InsideByValues.{on_is_through}
use Rattle.theory_sight.specs.Bands.{fraction}
use Rattle.theory_sight.specs.Coarse.{coarse, Standing, the_space, the_element, the_ground}
use Rattle.theory_sight.specs.Coarse.{label_of_present}
use Rattle.theory_sight.specs.Reading.{square, slanted, read, IsFarEnd}
use Rattle.theory_sight.proofs.Stacked.{open_is_open}
use Rattle.theory_gaps.specs.Gaps.{is_present, label_in_gap}
use Rattle.theory_gaps.specs.Borders.{border, far_end_at, goes_on, borders_over, stretches_of}
use Rattle.theory_gaps.specs.Borders.{stretches_over}
use Rattle.theory_gaps.proofs.EdgesAtANumber.{no_end_over, line_if_same, collinear_if_same}
use Rattle.theory_gaps.proofs.EdgesAtANumber.{same_if_collinear, across_alike, value_is_position}
use Rattle.theory_gaps.proofs.Rays.LabelsAlongTheNormal.{IsRow, stacked_where_same, depth_of, own_depths}
use Rattle.theory_gaps.proofs.Rays.LabelsAlongTheNormal.{odd_of_own, values, bare, sees_by_depths, ray_is_way}
use Rattle.theory_gaps.proofs.Rays.PointsOnTheRay.{frame_of, abscissa, on_at}
use Rattle.theory_gaps.proofs.Rays.RaysWithBorders.{Placed, depths_of, borders_of, SeesProducts, AreBorders}
use Rattle.theory_gaps.proofs.Rays.RaysWithBorders.{rays_lie_in_extents, passages_there, walk_is_read_over}
use Rattle.theory_gaps.proofs.Rays.RaysWithBorders.{HasColumn}
use Rattle.theory_gaps.proofs.Rays.RaysWithBorders.{column_there}
use Rattle.theory_sight.specs.Crossings.{StartsAt, label_along}

-- ---- numbers in lowest terms

-- a number in lowest terms
abbrev pub lowest_terms : Arrow → Arrow
lowest_terms v = fraction v.y v.x

lowest_is_fraction : (v : Arrow) → IsRational v → IsFraction (lowest_terms v)
lowest_is_fraction v v_in = lowest_is_reduced (reduced v.y v.x) (reduced_is_lowest v.y v.x v_in)

lowest_is_same : (v : Arrow) → IsRational v → IsSame (lowest_terms v) v
lowest_is_same v v_in =
    let r = reduced v.y v.x in
    let same = reduced_is_same v.y v.x v_in in
    let turn = mul_comm r.den v.y in
    cross_eq (rational r.num r.den) v ∙ omega (arith, ints)

-- what lies below a number lies below the same number
below_same : (r s t : Arrow) → IsRational r → IsRational s → IsRational t → IsBelow r s → IsSame s t
    → IsBelow r t
below_same r s t r_in s_in t_in low same =
    below_at_most_trans r s t r_in s_in t_in low (omega (arith, ints, same))

same_below : (r s t : Arrow) → IsRational r → IsRational s → IsRational t → IsSame r s → IsBelow s t
    → IsBelow r t
same_below r s t r_in s_in t_in same low =
    at_most_below_trans r s t r_in s_in t_in (omega (arith, ints, same)) low

-- ---- lists

all_pass : {X : Type 0} (test : X → Bool) (xs : List X) → ((x : X) → Stands x xs → test x ≡ true)
    → list_all test xs ≡ true
all_pass test [] each = refl
all_pass test (x ∷ xs) each =
    and_from (test x) (list_all test xs) (each x (inl refl))
    (all_pass test xs (λ y there. each y (inr there)))

one_fails : {X : Type 0} (test : X → Bool) (xs : List X) (x : X) → Stands x xs → test x ≡ false
    → list_all test xs ≡ false
one_fails test [] x there fails = absurd there
one_fails test (y ∷ ys) x (inl same) fails =
    ap (λ t. t && list_all test ys) (ap test (sym same) ∙ fails)
one_fails test (y ∷ ys) x (inr later) fails =
    ap (λ t. test y && t) (one_fails test ys x later fails) ∙ and_false (test y)
  where
    and_false : (t : Bool) → (t && false) ≡ false
    and_false true = refl
    and_false false = refl

module _ (m : Building) (valid : IsTrue (is_building m)) (b : Arrow) (p : Spot) (x0 : ℤ)
    (starts : StartsAt (ray_from p (flat b)) x0) (p_is : IsSpot p)
    (some : pos 0 <ℤ inner (flat b) (flat b)) (passed row : List PlanEdge)
    (is : IsRow m (frame_of b) (abscissa b p x0 starts) x0 passed row)
    (none : is_abscissa m (flat (frame_of b)) (abscissa b p x0 starts) ≡ false) where
  abbrev d : Arrow
  d = frame_of b

  abbrev u : Arrow
  u = abscissa b p x0 starts

  abbrev depth : PlanEdge → Arrow
  depth e = depth_of m valid b p x0 starts p_is some passed row is none e

  abbrev seen : Standing → List Arrow
  seen = values m valid b p x0 starts p_is some passed row is none

  abbrev open_there : Bool → Label
  open_there = bare m valid b p x0 starts p_is some passed row is none

  abbrev own : ℕ → List PlanEdge → List Arrow
  own n es = own_depths m valid b p x0 starts p_is some passed row is none n es

  -- an edge of the model that reaches past the ray's abscissa
  abbrev pub IsOver : PlanEdge → Type 0
  IsOver e = Stands e (plan_edges m) × (reaches_past d u e.edge ≡ true)

  value_in : (e : PlanEdge) → IsOver e → IsRational (value_of d u e.edge)
  value_in e over =
      value_on-IsRational (line_over d e.edge) u (reaching_is_line d u e.edge over.1) p_is

  -- ---- the borders at their depths

  abbrev placed_at : PlanEdge → List PlanEdge → Placed
  placed_at e before =
      record {
        start = lowest_terms (depth e);
        border = border (far_end_at (flat b) e.edge) (label_in_gap m p (e ∷ before));
      }

  abbrev placed_over : List PlanEdge → List PlanEdge → List Placed
  placed_over before [] = []
  placed_over before (e ∷ es) =
      if goes_on e es
      then placed_over (e ∷ before) es
      else placed_at e before ∷ placed_over (e ∷ before) es

  -- they are the borders over the row
  borders_are : (before es : List PlanEdge)
      → borders_of (placed_over before es) ≡ borders_over m (flat b) p before es
  borders_are before [] = refl
  borders_are before (e ∷ es) = by (goes_on e es) (borders_are (e ∷ before) es)
    where
      by : (t : Bool)
          → borders_of (placed_over (e ∷ before) es) ≡ borders_over m (flat b) p (e ∷ before) es
          → borders_of
          (cond t (placed_over (e ∷ before) es)
          (placed_at e before ∷ placed_over (e ∷ before) es))
          ≡ cond t (borders_over m (flat b) p (e ∷ before) es)
          (border (far_end_at (flat b) e.edge) (label_in_gap m p (e ∷ before))
          ∷ borders_over m (flat b) p (e ∷ before) es)
      by true rest = rest
      by false rest =
          ap
          (λ bs. border (far_end_at (flat b) e.edge) (label_in_gap m p (e ∷ before)) ∷ bs) rest

  -- ---- labels

  -- between a depth and the next edges the label is that of the gap
  gap_label : (before after : List PlanEdge)
      → ((test : PlanEdge → Bool)
      → differ (is_odd_number test before) (is_odd_number test after)
      ≡ is_odd_number test (passed ++ row))
      → (t : Arrow) → AllByRecursion (λ e. is_at_most (depth e) t ≡ true) before
      → AllByRecursion (λ e. is_at_most (depth e) t ≡ false) after
      → label_in_gap m p before ≡ label_of_present m open_there (present_after seen t)
  gap_label before after whole t behind ahead =
      stacked_where_same m
      (λ s. is_present before s.number && is_between_heights s.prism.z0 s.prism.z1 p)
      (λ s. present_after seen t (the_space s))
      (λ e. is_present before e.number && is_between_heights e.prism.z0 e.prism.z1 p)
      (λ e. present_after seen t (the_element e)) (open_label m.ground_height p)
      (open_there (present_after seen t the_ground))
      (λ s s_in. by s.number (is_between_heights s.prism.z0 s.prism.z1 p))
      (λ e e_in. by e.number (is_between_heights e.prism.z0 e.prism.z1 p)) refl
    where
      both_true : (r s : Bool) → s ≡ true → (r && s) ≡ r
      both_true true s same = same
      both_true false s same = refl

      both_false : (r s : Bool) → s ≡ false → (r && s) ≡ false
      both_false true s same = same
      both_false false s same = refl

      none_odd : (es : List PlanEdge) → is_odd_number (λ e. false) es ≡ false
      none_odd [] = refl
      none_odd (e ∷ es) = none_odd es

      counted : (n : ℕ) → is_present before n ≡ is_odd_number (λ v. is_at_most v t) (own n (passed ++ row))
      counted n =
          sym (differ-false (is_present before n))
          ∙ sym (ap₂ differ
          (odd_where_same (λ e. (e.product == n) && is_at_most (depth e) t) (λ e. e.product == n) before
          (all_follow (λ e at. both_true (e.product == n) (is_at_most (depth e) t) at) before behind))
          (odd_where_same (λ e. (e.product == n) && is_at_most (depth e) t) (λ e. false) after
          (all_follow (λ e at. both_false (e.product == n) (is_at_most (depth e) t) at) after ahead)
          ∙ none_odd after))
          ∙ whole (λ e. (e.product == n) && is_at_most (depth e) t)
          ∙ sym
          (odd_of_own m valid b p x0 starts p_is some passed row is none n (λ v. is_at_most v t)
          (passed ++ row))

      by : (n : ℕ) (high : Bool)
          → (is_present before n && high)
          ≡ is_odd_number (λ v. is_at_most v t) (cond high (own n (passed ++ row)) [])
      by n true = both_true (is_present before n) true refl ∙ counted n
      by n false = both_false (is_present before n) false refl

  -- ---- going over the row

  -- what holds on the way over the row, with these edges before and those to come
  record IsOnTheWay (before es : List PlanEdge) : Type 0 where
    whole : (test : PlanEdge → Bool)
        → differ (is_odd_number test before) (is_odd_number test es)
        ≡ is_odd_number test (passed ++ row)
    over : AllByRecursion IsOver es
    over_before : AllByRecursion IsOver before
    rise : AllOfTwo (λ e f. IsAtMost (value_of d u e.edge) (value_of d u f.edge)) es
    reached :
        AllByRecursion
        (λ e. AllByRecursion (λ f. IsAtMost (value_of d u f.edge) (value_of d u e.edge)) before) es

  one_on : (before : List PlanEdge) (e : PlanEdge) (es : List PlanEdge)
      → IsOnTheWay before (e ∷ es) → IsOnTheWay (e ∷ before) es
  one_on before e es way = record {
    whole =
        λ test.
        differ_on (test e) (is_odd_number test before) (is_odd_number test es) ∙ way.whole test;
    over = way.over.1;
    over_before = (way.over.0, way.over_before);
    rise = way.rise.1;
    reached = joined es way.rise.0 way.reached.1;
  }
    where
      differ_on : (t x y : Bool) → differ (differ t x) y ≡ differ x (differ t y)
      differ_on t x y =
          ap (λ z. differ z y) (differ_comm t x) ∙ differ_assoc x t y

      joined : (fs : List PlanEdge)
          → AllByRecursion (λ f. IsAtMost (value_of d u e.edge) (value_of d u f.edge)) fs
          → AllByRecursion
          (λ f. AllByRecursion (λ g. IsAtMost (value_of d u g.edge) (value_of d u f.edge)) before) fs
          → AllByRecursion
          (λ f. AllByRecursion (λ g. IsAtMost (value_of d u g.edge) (value_of d u f.edge)) (e ∷ before)) fs
      joined [] first rest = tt
      joined (f ∷ fs) first rest = ((first.0, rest.0), joined fs first.1 rest.1)

  -- where the row does not go on on the line of an edge all to come lie behind it
  all_behind : (before : List PlanEdge) (e : PlanEdge) (es : List PlanEdge)
      → IsOnTheWay before (e ∷ es) → goes_on e es ≡ false
      → AllByRecursion (λ f. IsBelow (value_of d u e.edge) (value_of d u f.edge)) es
  all_behind before e [] way alone = tt
  all_behind before e (f ∷ fs) way alone = (
    first,
    all_after fs way.over.1.1 way.rise.1.0,
  )
    where
      first : IsBelow (value_of d u e.edge) (value_of d u f.edge)
      first = by (number_cases (value_of d u e.edge) (value_of d u f.edge))
        where
          by : (IsBelow (value_of d u e.edge) (value_of d u f.edge)
              ⊎ IsSame (value_of d u e.edge) (value_of d u f.edge))
              ⊎ IsBelow (value_of d u f.edge) (value_of d u e.edge)
              → IsBelow (value_of d u e.edge) (value_of d u f.edge)
          by (inl (inl less)) = less
          by (inl (inr same)) =
              absurd
              (false≢true
              (sym alone
              ∙ collinear_if_same m d u
              (ray_is_way m valid b p x0 starts p_is some passed row is none) p_is none e f way.over.0.0
              way.over.1.0.0 way.over.0.1 way.over.1.0.1 same))
          by (inr more) =
              absurd (below_clash (value_of d u f.edge) (value_of d u e.edge) more way.rise.0.0)

      all_after : (gs : List PlanEdge) → AllByRecursion IsOver gs
          → AllByRecursion (λ g. IsAtMost (value_of d u f.edge) (value_of d u g.edge)) gs
          → AllByRecursion (λ g. IsBelow (value_of d u e.edge) (value_of d u g.edge)) gs
      all_after [] over rise = tt
      all_after (g ∷ gs) over rise = (
        below_at_most_trans (value_of d u e.edge) (value_of d u f.edge) (value_of d u g.edge)
            (value_in e way.over.0) (value_in f way.over.1.0) (value_in g over.0) first rise.0,
        all_after gs over.1 rise.1,
      )

  -- moved by the position both lie as before
  depth_below : (e f : PlanEdge) → IsBelow (value_of d u e.edge) (value_of d u f.edge)
      → IsBelow (depth e) (depth f)
  depth_below e f less =
      subst (λ k. pos 0 <ℤ k)
      (sym (cross-moved (neg_ℤ x0) (value_of d u e.edge) (value_of d u f.edge))) less

  depth_at_most : (e f : PlanEdge) → IsAtMost (value_of d u e.edge) (value_of d u f.edge)
      → IsAtMost (depth e) (depth f)
  depth_at_most e f least =
      subst (λ k. pos 0 ≤ℤ k)
      (sym (cross-moved (neg_ℤ x0) (value_of d u e.edge) (value_of d u f.edge))) least

  at_most_lowest : (e f : PlanEdge) → IsOver e → IsOver f
      → IsAtMost (value_of d u f.edge) (value_of d u e.edge)
      → is_at_most (depth f) (lowest_terms (depth e)) ≡ true
  at_most_lowest e f e_in f_in least =
      let same = lowest_is_same (depth e) (value_in e e_in) in
      let turn = cross-turn (lowest_terms (depth e)) (depth e) in
      test_at_most (pos 0) (cross (depth f) (lowest_terms (depth e)))
      (at_most_trans (depth f) (depth e) (lowest_terms (depth e)) (value_in f f_in) (value_in e e_in)
      ((lowest_is_fraction (depth e) (value_in e e_in)).positive) (depth_at_most f e least)
      (omega (arith, ints)))

  not_at_most_lowest : (e f : PlanEdge) → IsOver e → IsOver f
      → IsBelow (value_of d u e.edge) (value_of d u f.edge)
      → is_at_most (depth f) (lowest_terms (depth e)) ≡ false
  not_at_most_lowest e f e_in f_in less =
      let below =
      same_below (lowest_terms (depth e)) (depth e) (depth f)
      ((lowest_is_fraction (depth e) (value_in e e_in)).positive) (value_in e e_in) (value_in f f_in)
      (lowest_is_same (depth e) (value_in e e_in)) (depth_below e f less)
      in
      let turn = cross-turn (lowest_terms (depth e)) (depth f) in
      test_not_at_most (pos 0) (cross (depth f) (lowest_terms (depth e))) (omega (arith, ints))

  all_at_most : (e : PlanEdge) (before : List PlanEdge) → IsOver e → AllByRecursion IsOver before
      → AllByRecursion (λ f. IsAtMost (value_of d u f.edge) (value_of d u e.edge)) before
      → AllByRecursion (λ f. is_at_most (depth f) (lowest_terms (depth e)) ≡ true) before
  all_at_most e [] e_in over least = tt
  all_at_most e (f ∷ fs) e_in over least =
      (at_most_lowest e f e_in over.0 least.0, all_at_most e fs e_in over.1 least.1)

  none_at_most : (e : PlanEdge) (es : List PlanEdge) → IsOver e → AllByRecursion IsOver es
      → AllByRecursion (λ f. IsBelow (value_of d u e.edge) (value_of d u f.edge)) es
      → AllByRecursion (λ f. is_at_most (depth f) (lowest_terms (depth e)) ≡ false) es
  none_at_most e [] e_in over less = tt
  none_at_most e (f ∷ fs) e_in over less =
      (not_at_most_lowest e f e_in over.0 less.0, none_at_most e fs e_in over.1 less.1)

  -- the label behind each border
  labels_are : (before es : List PlanEdge) → IsOnTheWay before es
      → AllByRecursion
      (λ s. s.border.label ≡ label_of_present m open_there (present_after seen s.start))
      (placed_over before es)
  labels_are before [] way = tt
  labels_are before (e ∷ es) way =
      by (goes_on e es) refl (labels_are (e ∷ before) es (one_on before e es way))
    where
      by : (t : Bool) → goes_on e es ≡ t
          → AllByRecursion
          (λ s. s.border.label ≡ label_of_present m open_there (present_after seen s.start))
          (placed_over (e ∷ before) es)
          → AllByRecursion
          (λ s. s.border.label ≡ label_of_present m open_there (present_after seen s.start))
          (cond t (placed_over (e ∷ before) es) (placed_at e before ∷ placed_over (e ∷ before) es))
      by true on rest = rest
      by false alone rest = (
        gap_label (e ∷ before) es ((one_on before e es way).whole) (lowest_terms (depth e)) (
          at_most_lowest e e way.over.0 way.over.0 (at_most_refl (value_of d u e.edge)),
          all_at_most e before way.over.0 way.over_before way.reached.0,
        )
            (none_at_most e es way.over.0 way.over.1 (all_behind before e es way alone)),
        rest,
      )

  -- ---- depths

  -- they rise from any number below all depths
  depths_rise : (low : Arrow) → IsRational low → (before es : List PlanEdge) → IsOnTheWay before es
      → AllByRecursion (λ e. IsBelow low (depth e)) es
      → Rise (Some low) (depths_of (placed_over before es))
  depths_rise low low_in before [] way after = tt
  depths_rise low low_in before (e ∷ es) way after =
      by (goes_on e es) refl (depths_rise low low_in (e ∷ before) es (one_on before e es way) after.1)
      (λ behind.
      depths_rise (lowest_terms (depth e))
      ((lowest_is_fraction (depth e) (value_in e way.over.0)).positive) (e ∷ before) es
      (one_on before e es way) behind)
    where
      behind_lowest : (fs : List PlanEdge) → AllByRecursion IsOver fs
          → AllByRecursion (λ f. IsBelow (value_of d u e.edge) (value_of d u f.edge)) fs
          → AllByRecursion (λ f. IsBelow (lowest_terms (depth e)) (depth f)) fs
      behind_lowest [] over less = tt
      behind_lowest (f ∷ fs) over less = (
        same_below (lowest_terms (depth e)) (depth e) (depth f)
            ((lowest_is_fraction (depth e) (value_in e way.over.0)).positive)
            (value_in e way.over.0) (value_in f over.0)
            (lowest_is_same (depth e) (value_in e way.over.0)) (depth_below e f less.0),
        behind_lowest fs over.1 less.1,
      )

      by : (t : Bool) → goes_on e es ≡ t
          → Rise (Some low) (depths_of (placed_over (e ∷ before) es))
          → (AllByRecursion (λ f. IsBelow (lowest_terms (depth e)) (depth f)) es
          → Rise (Some (lowest_terms (depth e))) (depths_of (placed_over (e ∷ before) es)))
          → Rise (Some low)
          (depths_of
          (cond t (placed_over (e ∷ before) es) (placed_at e before ∷ placed_over (e ∷ before) es)))
      by true on rest further = rest
      by false alone rest further = (
        lowest_is_fraction (depth e) (value_in e way.over.0),
        below_same low (depth e) (lowest_terms (depth e)) low_in (value_in e way.over.0)
            ((lowest_is_fraction (depth e) (value_in e way.over.0)).positive) after.0
            (same_sym (lowest_terms (depth e)) (depth e)
            (lowest_is_same (depth e) (value_in e way.over.0))),
        further (behind_lowest es way.over.1 (all_behind before e es way alone)),
      )

  -- each edge's depth is one of them
  depths_have : (before es : List PlanEdge) → IsOnTheWay before es
      → AllByRecursion (λ e. IsOneOf (depth e) (depths_of (placed_over before es))) es
  depths_have before [] way = tt
  depths_have before (e ∷ es) way =
      by (goes_on e es) refl (depths_have (e ∷ before) es (one_on before e es way))
    where
      first : (fs : List PlanEdge) → IsOnTheWay before (e ∷ fs) → goes_on e fs ≡ true
          → (ts : List Arrow) → AllByRecursion (λ f. IsOneOf (depth f) ts) fs → IsOneOf (depth e) ts
      first [] at on ts have = absurd (false≢true on)
      first (f ∷ fs) at on ts have = from have.0
        where
          same : IsSame (depth e) (depth f)
          same =
              cross-moved (neg_ℤ x0) (value_of d u e.edge) (value_of d u f.edge)
              ∙ same_if_collinear m d u
              (ray_is_way m valid b p x0 starts p_is some passed row is none) p_is none e f at.over.0.0
              at.over.1.0.0 at.over.0.1 at.over.1.0.1 on

          from : IsOneOf (depth f) ts → IsOneOf (depth e) ts
          from (s, s_in, one) =
              (s, s_in, same_trans (depth e) (depth f) s (value_in f at.over.1.0) same one)

      later : (fs : List PlanEdge) (t : Arrow) (ts : List Arrow)
          → AllByRecursion (λ f. IsOneOf (depth f) ts) fs
          → AllByRecursion (λ f. IsOneOf (depth f) (t ∷ ts)) fs
      later fs t ts have =
          all_follow {P = λ f. IsOneOf (depth f) ts} {Q = λ f. IsOneOf (depth f) (t ∷ ts)}
          (λ f at. (at.0, inr at.1, at.2)) fs have

      by : (t : Bool) → goes_on e es ≡ t
          → AllByRecursion (λ f. IsOneOf (depth f) (depths_of (placed_over (e ∷ before) es))) es
          → AllByRecursion
          (λ f.
          IsOneOf (depth f)
          (depths_of
          (cond t (placed_over (e ∷ before) es) (placed_at e before ∷ placed_over (e ∷ before) es))))
          (e ∷ es)
      by true on rest = (first es way on (depths_of (placed_over (e ∷ before) es)) rest, rest)
      by false alone rest = (
        (
          lowest_terms (depth e),
          inl refl,
          same_sym (lowest_terms (depth e)) (depth e)
              (lowest_is_same (depth e) (value_in e way.over.0)),
        ),
        later es (lowest_terms (depth e)) (depths_of (placed_over (e ∷ before) es)) rest,
      )

  -- ---- far ends

  module _ (e : PlanEdge) (e_in : IsOver e) where
    t_in : IsRational (lowest_terms (depth e))
    t_in = (lowest_is_fraction (depth e) (value_in e e_in)).positive

    -- the position there is the value of the edge
    there : IsSame (moved_by x0 (lowest_terms (depth e))) (value_of d u e.edge)
    there =
        moved-cross x0 (lowest_terms (depth e)) (value_of d u e.edge)
        ∙ lowest_is_same (depth e) (value_in e e_in)

    on_is : (g : PlanEdge) → Stands g (plan_edges m)
        → is_on (at_depth (ray_from p (flat b)) (lowest_terms (depth e))) g.edge
        ≡ is_through d u (moved_by x0 (lowest_terms (depth e))) g.edge
    on_is g g_in =
        on_at b p x0 starts g.edge (lowest_terms (depth e))
        ∙ on_is_through d u (moved_by x0 (lowest_terms (depth e)))
        (ray_is_way m valid b p x0 starts p_is some passed row is none) p_is t_in g.edge
        (no_end_over m d u (ray_is_way m valid b p x0 starts p_is some passed row is none) p_is none g
        g_in)

    -- an edge through the far end stands across where this one does
    across_there : (g : PlanEdge) → Stands g (plan_edges m)
        → is_on (at_depth (ray_from p (flat b)) (lowest_terms (depth e))) g.edge ≡ true
        → is_across (flat b) g.edge ≡ is_across (flat b) e.edge
    across_there g g_in on =
        let parts =
        and_parts (reaches_past d u g.edge)
        (int_eq (cross (value_of d u g.edge) (moved_by x0 (lowest_terms (depth e)))) (pos 0))
        (sym (on_is g g_in) ∙ on)
        in
        let same =
        same_trans (value_of d u g.edge) (moved_by x0 (lowest_terms (depth e))) (value_of d u e.edge) t_in
        ((Decides-int_eq (cross (value_of d u g.edge) (moved_by x0 (lowest_terms (depth e)))) (pos 0)).0
        parts.1) there
        in
        across_alike b g.edge e.edge (reaching_is_line d u g.edge parts.0)
        (reaching_is_line d u e.edge e_in.1)
        (line_if_same m d u (ray_is_way m valid b p x0 starts p_is some passed row is none) p_is none g e
        g_in e_in.0 parts.0 e_in.1 same)

    own_on : is_on (at_depth (ray_from p (flat b)) (lowest_terms (depth e))) e.edge ≡ true
    own_on =
        on_is e e_in.0
        ∙ and_from (reaches_past d u e.edge)
        (int_eq (cross (value_of d u e.edge) (moved_by x0 (lowest_terms (depth e)))) (pos 0)) e_in.1
        ((Decides-int_eq (cross (value_of d u e.edge) (moved_by x0 (lowest_terms (depth e)))) (pos 0)).1
        (same_sym (moved_by x0 (lowest_terms (depth e))) (value_of d u e.edge) there))

    -- the depth of an edge that stands across is whole
    pub depth_is_whole : is_across (flat b) e.edge ≡ true
        → lowest_terms (depth e) ≡ rational (abscissa_at e.edge.a (flat b) -ℤ x0) (pos 1)
    depth_is_whole across =
        fraction_unique (lowest_terms (depth e))
        (rational (abscissa_at e.edge.a (flat b) -ℤ x0) (pos 1))
        (lowest_is_fraction (depth e) (value_in e e_in))
        (whole_is_reduced (abscissa_at e.edge.a (flat b) -ℤ x0))
        (ap (λ k. cross (lowest_terms (depth e)) (arrow (pos 1) k)) (back (abscissa_at e.edge.a (flat b)))
        ∙ sym (moved-cross x0 (lowest_terms (depth e)) (rational (abscissa_at e.edge.a (flat b)) (pos 1)))
        ∙ same_trans (moved_by x0 (lowest_terms (depth e))) (value_of d u e.edge)
        (rational (abscissa_at e.edge.a (flat b)) (pos 1)) (value_in e e_in) there
        (value_is_position b u e.edge across))
      where
        back : (y : ℤ) → y -ℤ x0 ≡ y +ℤ (neg_ℤ x0 *ℤ pos 1)
        back y = omega (arith, ints)

    -- it ends as the edge says
    pub ends_so : IsFarEnd m (ray_from p (flat b)) x0 (lowest_terms (depth e)) (far_end_at (flat b) e.edge)
    ends_so = by (is_across (flat b) e.edge) refl
      where
        test : PlanEdge → Bool
        test g =
            not (is_on (at_depth (ray_from p (flat b)) (lowest_terms (depth e))) g.edge)
            || is_across (flat b) g.edge

        each : is_across (flat b) e.edge ≡ true → (g : PlanEdge) → Stands g (plan_edges m)
            → test g ≡ true
        each across g g_in =
            from (is_on (at_depth (ray_from p (flat b)) (lowest_terms (depth e))) g.edge) refl
          where
            from : (t : Bool)
                → is_on (at_depth (ray_from p (flat b)) (lowest_terms (depth e))) g.edge ≡ t
                → (not t || is_across (flat b) g.edge) ≡ true
            from true on = across_there g g_in on ∙ across
            from false off = refl

        by : (t : Bool) → is_across (flat b) e.edge ≡ t
            → IsFarEnd m (ray_from p (flat b)) x0 (lowest_terms (depth e))
            (cond t (square (abscissa_at e.edge.a (flat b))) slanted)
        by true across = (depth_is_whole across, all_pass test (plan_edges m) (each across))
        by false across =
            one_fails test (plan_edges m) e e_in.0 (ap₂ (λ s t. not s || t) own_on across)

  ends_are : (before es : List PlanEdge) → AllByRecursion IsOver es
      → AllByRecursion (λ s. IsFarEnd m (ray_from p (flat b)) x0 s.start s.border.far)
      (placed_over before es)
  ends_are before [] over = tt
  ends_are before (e ∷ es) over = by (goes_on e es) (ends_are (e ∷ before) es over.1)
    where
      by : (t : Bool)
          → AllByRecursion (λ s. IsFarEnd m (ray_from p (flat b)) x0 s.start s.border.far)
          (placed_over (e ∷ before) es)
          → AllByRecursion (λ s. IsFarEnd m (ray_from p (flat b)) x0 s.start s.border.far)
          (cond t (placed_over (e ∷ before) es) (placed_at e before ∷ placed_over (e ∷ before) es))
      by true rest = rest
      by false rest = (ends_so e over.0, rest)

  -- ---- the walk

  start_moved : (v : Arrow) → cross v (rational x0 (pos 1)) ≡ cross (moved_by (neg_ℤ x0) v) ray_start
  start_moved v =
      ap (λ k. cross v (arrow (pos 1) k)) (whole x0) ∙ cross-moved_back x0 v ray_start
    where
      whole : (x : ℤ) → x ≡ pos 0 +ℤ (x *ℤ pos 1)
      whole x = omega (arith, ints)

  behind_start : AllByRecursion (λ e. IsAtMost (depth e) ray_start) passed
  behind_start =
      all_follow
      (λ e at. subst (λ k. pos 0 ≤ℤ k) (start_moved (value_of d u e.edge)) at.1.1)
      passed is.behind

  ahead_of_start : AllByRecursion (λ e. IsBelow ray_start (depth e)) row
  ahead_of_start =
      all_follow
      (λ e at.
      let whole = start_moved (value_of d u e.edge) in
      let one = cross-turn (value_of d u e.edge) (rational x0 (pos 1)) in
      let other = cross-turn (depth e) ray_start in
      let less : pos 0 <ℤ cross (rational x0 (pos 1)) (value_of d u e.edge) = at.1.1 in
      let answer : pos 0 <ℤ cross ray_start (depth e) = omega (arith, ints) in
      answer)
      row is.ahead

  begins : IsOnTheWay passed row
  begins = record {
    whole = λ test. sym (is_odd_number-append test passed row);
    over = all_follow (λ e at. (at.0, at.1.0)) row is.ahead;
    over_before = all_follow (λ e at. (at.0, at.1.0)) passed is.behind;
    rise = is.rise;
    reached = each row is.ahead;
  }
    where
      below : (e : PlanEdge) → IsOver e → IsBelow (rational x0 (pos 1)) (value_of d u e.edge)
          → (fs : List PlanEdge)
          → AllByRecursion
          (λ f. Stands f (plan_edges m)
          × ((reaches_past d u f.edge ≡ true)
          × IsAtMost (value_of d u f.edge) (rational x0 (pos 1)))) fs
          → AllByRecursion (λ f. IsAtMost (value_of d u f.edge) (value_of d u e.edge)) fs
      below e e_in less [] behind = tt
      below e e_in less (f ∷ fs) behind = (
        at_most_trans (value_of d u f.edge) (rational x0 (pos 1)) (value_of d u e.edge)
            (value_in f (behind.0.0, behind.0.1.0)) (omega (arith, ints)) (value_in e e_in)
            behind.0.1.1 (at_most_from_below (rational x0 (pos 1)) (value_of d u e.edge) less),
        below e e_in less fs behind.1,
      )

      each : (es : List PlanEdge)
          → AllByRecursion
          (λ e. Stands e (plan_edges m)
          × ((reaches_past d u e.edge ≡ true)
          × IsBelow (rational x0 (pos 1)) (value_of d u e.edge))) es
          → AllByRecursion
          (λ e. AllByRecursion (λ f. IsAtMost (value_of d u f.edge) (value_of d u e.edge)) passed) es
      each [] ahead = tt
      each (e ∷ es) ahead =
          (below e (ahead.0.0, ahead.0.1.0) ahead.0.1.1 passed is.behind, each es ahead.1)

  sees : SeesProducts m (ray_from p (flat b)) x0 open_there seen
  sees = record {
    lies = rays_lie_in_extents m (ray_from p (flat b)) valid p_is some;
    starts = starts;
    bare_is = λ t. open_is_open m.ground_height p;
    has = sees_by_depths m valid b p x0 starts p_is some passed row is none;
  }

  first_label : label_in_gap m p passed ≡ label_of_present m open_there (present_after seen ray_start)
  first_label =
      gap_label passed row (λ test. sym (is_odd_number-append test passed row)) ray_start
      (all_follow (λ e least. test_at_most (pos 0) (cross (depth e) ray_start) least) passed behind_start)
      (all_follow
      (λ e less.
      let turn = cross-turn ray_start (depth e) in
      test_not_at_most (pos 0) (cross (depth e) ray_start) (omega (arith, ints)))
      row ahead_of_start)

  placed : AreBehindOrAhead (λ t. coarse (label_along m (ray_from p (flat b)) t))
      (label_of_present m open_there) seen sees.has ray_start (depths_of (placed_over passed row))
  placed q = of_standing q
    where
      IsPlacedAt : Arrow → Type 0
      IsPlacedAt t =
          IsRational t × (IsAtMost t ray_start ⊎ IsOneOf t (depths_of (placed_over passed row)))

      all_edges : AllByRecursion (λ e. IsPlacedAt (depth e)) (passed ++ row)
      all_edges =
          all-append (λ e. IsPlacedAt (depth e)) passed row
          (behind_all passed (all_follow (λ e at. (at.0, at.1.0)) passed is.behind) behind_start)
          (ahead_all row (all_follow (λ e at. (at.0, at.1.0)) row is.ahead)
          (depths_have passed row begins))
        where
          behind_all : (es : List PlanEdge) → AllByRecursion IsOver es
              → AllByRecursion (λ e. IsAtMost (depth e) ray_start) es
              → AllByRecursion (λ e. IsPlacedAt (depth e)) es
          behind_all [] over least = tt
          behind_all (e ∷ es) over least =
              ((value_in e over.0, inl least.0), behind_all es over.1 least.1)

          ahead_all : (es : List PlanEdge) → AllByRecursion IsOver es
              → AllByRecursion (λ e. IsOneOf (depth e) (depths_of (placed_over passed row))) es
              → AllByRecursion (λ e. IsPlacedAt (depth e)) es
          ahead_all [] over have = tt
          ahead_all (e ∷ es) over have =
              ((value_in e over.0, inr have.0), ahead_all es over.1 have.1)

      of_own : (n : ℕ) (es : List PlanEdge) → AllByRecursion (λ e. IsPlacedAt (depth e)) es
          → AllByRecursion IsPlacedAt (own n es)
      of_own n [] all = tt
      of_own n (e ∷ es) all = by (e.product == n) (of_own n es all.1)
        where
          by : (t : Bool) → AllByRecursion IsPlacedAt (own n es)
              → AllByRecursion IsPlacedAt (cond t (depth e ∷ own n es) (own n es))
          by true rest = (all.0, rest)
          by false rest = rest

      of_height : (n : ℕ) (high : Bool)
          → AllByRecursion IsPlacedAt (cond high (own n (passed ++ row)) [])
      of_height n true = of_own n (passed ++ row) all_edges
      of_height n false = tt

      of_standing : (q : Standing) → AllByRecursion IsPlacedAt (seen q)
      of_standing (the_space s) = of_height s.number (is_between_heights s.prism.z0 s.prism.z1 p)
      of_standing (the_element e) = of_height e.number (is_between_heights e.prism.z0 e.prism.z1 p)
      of_standing the_ground = tt

  are_borders : AreBorders m (ray_from p (flat b)) x0 open_there seen sees (label_in_gap m p passed)
      (placed_over passed row)
  are_borders = record {
    rise = depths_rise ray_start (omega (arith, ints)) passed row begins ahead_of_start;
    placed = placed;
    first = first_label;
    labels = labels_are passed row begins;
    ends = ends_are passed row begins.over;
  }

  -- the labels along the ray, and its stretches
  pub column_along : HasColumn m (ray_from p (flat b)) x0 (stretches_over m (flat b) p passed row)
  column_along =
      subst
      (λ bs. HasColumn m (ray_from p (flat b)) x0 (stretches_of (label_in_gap m p passed) bs))
      (borders_are passed row)
      (column_there m (ray_from p (flat b)) x0 open_there seen sees (label_in_gap m p passed)
      (placed_over passed row) are_borders)

  -- a level ray from a whole position over no abscissa has passages
  pub passages_along : (breaks : List (Break Label)) × ArePassages m (ray_from p (flat b)) breaks
  passages_along =
      passages_there m (ray_from p (flat b)) x0 open_there seen sees (label_in_gap m p passed)
      (placed_over passed row) are_borders

  -- its walk is what is read over the row
  pub walk_along : (w : Walk)
      → IsWalkOf m (ray_from p (flat b)) w
      ↔ (course_of w ≡ read m (flat b) x0 x0 (stretches_over m (flat b) p passed row))
  walk_along w =
      subst
      (λ bs.
      IsWalkOf m (ray_from p (flat b)) w
      ↔ (course_of w ≡ read m (flat b) x0 x0 (stretches_of (label_in_gap m p passed) bs)))
      (borders_are passed row)
      (walk_is_read_over m (ray_from p (flat b)) x0 open_there seen sees (label_in_gap m p passed)
      (placed_over passed row) are_borders w)
