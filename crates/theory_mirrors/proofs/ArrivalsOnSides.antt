-- From a plain point of a side the ray along the normal begins where the side's space ends, and it arrives on
-- sides that face back, at plain points of them.
use Rattle.std.proofs.Common.{◌≡◌, refl, sym, ap, ap₂, ◌∙◌, arith, subst, ℕ, ℤ, pos, neg_ℤ, ◌+ℤ◌, ◌-ℤ◌}
use Rattle.std.proofs.Common.{◌*ℤ◌, ◌<ℤ◌, Bool, true, false, not, cond, ◌&&◌, ◌||◌, IsTrue, List, Some}
use Rattle.std.proofs.Common.{slice_get}
use Rattle.std.specs.Ordering.{int_eq}
use Rattle.std.specs.List.{list_any}
use Rattle.std.proofs.lemmas.Int.{ints}
use Rattle.std.proofs.lemmas.Bool.{and_parts, and_from}
use Rattle.std.proofs.lemmas.Bool.Decides.{Decides-int_eq}
use Rattle.std.proofs.Math.Path.{fun_ext}
use Rattle.theory_lists.specs.Members.{Stands}
use Rattle.theory_numbers.specs.Arrows.{Arrow, arrow, cross, dot, mirror, scale}
use Rattle.theory_numbers.specs.Arrows as arrows
use Rattle.theory_numbers.specs.Rationals.{IsRational, IsSame, rational}
use Rattle.theory_numbers.specs.Tests.{is_positive}
use Rattle.theory_numbers.proofs.Multiples.{equality_of_multiples}
use Rattle.theory_numbers.proofs.Products.{positive_product, positive_factor, zero_of_positive}
use Rattle.theory_numbers.proofs.Fractions.Rationals.{same_sym, same_trans}
use Rattle.theory_numbers.proofs.Ring.{mul_comm}
use Rattle.theory_numbers.proofs.Shapes.{var, num, plus, minus, times, negated, equal, cross_eq, dot_by}
use Rattle.theory_numbers.proofs.Signs.{less_from, test_not_less}
use Rattle.theory_cuttings.specs.Changes.{moved_by}
use Rattle.theory_cuttings.specs.Passages.{ray_start}
use Rattle.theory_plane.proofs.Clearance.{value_on-IsRational}
use Rattle.sb_fraction.specs.Crossings.{abscissa_at}
use Rattle.sb_fraction.specs.Directions.{step, runs_along, direction_of, normal_over}
use Rattle.sb_fraction.specs.Edges.{Edge, span_of, is_on}
use Rattle.sb_fraction.specs.Lines.{flat, line_over, reaches_past}
use Rattle.sb_fraction.specs.Spots.{Spot, IsSpot, vector, inner, opposite, times_w, reading}
use Rattle.theory_plans.specs.LoopEdges.{edges_of}
use Rattle.theory_plans.proofs.Edges.EdgesOfPlans.{plan_edges_are_proper}
use Rattle.theory_plans.proofs.Edges.StepsOfEdges.{IsStep, step_is, direction_along, direction_against}
use Rattle.sb_model.specs.declared.faces.face.FaceKind.TheVariants as kind
use Rattle.sb_model.specs.declared.products.Space.{Space}
use Rattle.sb_model.specs.Building.{Building, is_building}
use Rattle.sb_model.specs.Surfaces.Faces.{side_over, side_of, is_of_side}
use Rattle.sb_model.specs.Passages.{ray_from, at_depth}
use Rattle.sb_model.specs.Surfaces.PlainPoints.{is_at_height, is_at_ground, is_off_side_cuts, is_plain}
use Rattle.sb_model.specs.PlanEdges.{PlanEdge, Product, plan_edges, products_of, is_abscissa}
use Rattle.sb_model.specs.Solids.{is_between_heights}
use Rattle.sb_model.specs.Walks.{is_across, is_square}
use Rattle.theory_models.proofs.EdgesOfProducts.{plan_of_solid}
use Rattle.theory_models.proofs.LabelsAlike.{abscissa_sees_no_factor}
use Rattle.theory_models.proofs.NumbersApart.{of_space, space_stands}
use Rattle.theory_parity.specs.Below.{IsWay, value_of, is_through}
use Rattle.theory_parity.proofs.Rays.BelowFlips.{reaching_is_line}
use Rattle.theory_sight.specs.Reading.{square, slanted, IsFarEnd}
use Rattle.theory_gaps.proofs.EdgesAtANumber.{no_end_over, value_is_position}
use Rattle.theory_gaps.proofs.Rays.LabelsAlongTheNormal.{IsRow, plan_edge, edge_stands, ray_is_way, depth_of}
use Rattle.theory_gaps.proofs.OneWalkEach.{proper_there}
use Rattle.theory_gaps.proofs.OutwardFromSides.{reaches_if_on}
use Rattle.theory_gaps.proofs.Rays.PointsOnTheRay.{frame_of, abscissa, height_at}
use Rattle.theory_gaps.proofs.Rays.RaysOfFaces.{abscissa_turned}
use Rattle.theory_gaps.proofs.RowsOfSlabs.{place_of}
use Rattle.theory_gaps.proofs.Rays.WalkAlongTheNormal.{lowest_terms, ends_so}
use Rattle.theory_mirrors.proofs.RaysOfFaces.SpacesAlongARay.{BeginsAt}
use Rattle.theory_mirrors.proofs.RaysOfFaces.SpacesOnLevelRays.{sees_spaces, ends_at_start, FacesBack, faces_back}
use Rattle.theory_mirrors.proofs.StepsOpposed.{opposed_steps}
use Rattle.theory_mirrors.proofs.RaysOfFaces.WaysFromFaces.{ArrivesAt, SeesFromFace}
use Rattle.theory_sight.specs.Crossings.{StartsAt}

-- a multiple of a step along another's frame
span_dot : (bx by t x y sx sy : ℤ) → sx ≡ t *ℤ x → sy ≡ t *ℤ y
    → dot (arrow by (neg_ℤ bx)) (arrow sx sy) ≡ t *ℤ ((by *ℤ x) -ℤ (bx *ℤ y))
span_dot bx by t x y sx sy same_x same_y =
    ap₂ (λ k l. dot (arrow by (neg_ℤ bx)) (arrow k l)) same_x same_y
    ∙ equal
    (dot_by (arrow by (neg_ℤ bx)) (arrow (t *ℤ x) (t *ℤ y)) (var by) (negated (var bx))
    (times (var t) (var x)) (times (var t) (var y)))
    (times (var t) (minus (times (var by) (var x)) (times (var bx) (var y)))) (omega arith)

-- and across it
span_across : (bx by t x y sx sy : ℤ) → sx ≡ t *ℤ x → sy ≡ t *ℤ y
    → (sx *ℤ bx) +ℤ (sy *ℤ by) ≡ t *ℤ ((bx *ℤ x) +ℤ (by *ℤ y))
span_across bx by t x y sx sy same_x same_y =
    ap₂ (λ k l. (k *ℤ bx) +ℤ (l *ℤ by)) same_x same_y
    ∙ equal
    (plus (times (times (var t) (var x)) (var bx)) (times (times (var t) (var y)) (var by)))
    (times (var t) (plus (times (var bx) (var x)) (times (var by) (var y)))) (omega arith)

module _ (m : Building) (valid : IsTrue (is_building m)) (b : Arrow) (p : Spot) (x0 : ℤ)
    (starts : StartsAt (ray_from p (flat b)) x0) (p_is : IsSpot p)
    (some : pos 0 <ℤ inner (flat b) (flat b)) (passed row : List PlanEdge)
    (is : IsRow m (frame_of b) (abscissa b p x0 starts) x0 passed row)
    (none : is_abscissa m (flat (frame_of b)) (abscissa b p x0 starts) ≡ false) (s : Space)
    (s_in : Stands s m.spaces) (e : Edge) (e_in : Stands e (edges_of s.prism.loops))
    (steps : IsStep e) (b_x : b.x ≡ (step e).y) (b_y : b.y ≡ neg_ℤ (step e).x)
    (x0_is : abscissa_at e.a (flat b) ≡ x0) (on : is_on p e ≡ true)
    (high : is_between_heights s.prism.z0 s.prism.z1 p ≡ true)
    (heights : is_at_height m p ≡ false) (ground : is_at_ground m p ≡ false) where
  abbrev d : Arrow
  d = frame_of b

  abbrev u : Arrow
  u = abscissa b p x0 starts

  way : IsWay (frame_of b)
  way = ray_is_way m valid b p x0 starts p_is some passed row is none

  times_some : (f : Edge) (k : IsStep f) → pos 0 <ℤ pos k.times
  times_some f k = let positive = k.positive in omega (arith, ints)

  own_in : Stands (plan_edge e s.number) (plan_edges m)
  own_in = edge_stands e (of_space s) (products_of m) (space_stands m s s_in) e_in

  -- ---- the side's own edge

  across_own : is_across (flat b) e ≡ true
  across_own =
      (Decides-int_eq (((span_of e).x *ℤ b.x) +ℤ ((span_of e).y *ℤ b.y)) (pos 0)).1
      (span_across b.x b.y (pos steps.times) (step e).x (step e).y (span_of e).x (span_of e).y steps.x
      steps.y
      ∙ ap₂ (λ k l. pos steps.times *ℤ ((k *ℤ (step e).x) +ℤ (l *ℤ (step e).y))) b_x b_y
      ∙ equal
      (times (var (pos steps.times))
      (plus (times (var (step e).y) (var (step e).x))
      (times (negated (var (step e).x)) (var (step e).y)))) (num 0) (omega arith))

  reaches_own : reaches_past (frame_of b) (abscissa b p x0 starts) e ≡ true
  reaches_own =
      reaches_if_on (frame_of b) p e
      (no_end_over m d u way p_is none (plan_edge e s.number) own_in) on

  at_own : IsSame (value_of (frame_of b) (abscissa b p x0 starts) e) (moved_by x0 ray_start)
  at_own =
      ap (λ k. cross (value_of d u e) (arrow (pos 1) k)) (start_is x0 ∙ ap (λ z. z) (sym x0_is))
      ∙ value_is_position b u e across_own
    where
      start_is : (x : ℤ) → pos 0 +ℤ (x *ℤ pos 1) ≡ x
      start_is x = omega (arith, ints)

  through_own : is_through (frame_of b) (abscissa b p x0 starts) (moved_by x0 ray_start) e ≡ true
  through_own =
      and_from (reaches_past d u e) (int_eq (cross (value_of d u e) (moved_by x0 ray_start)) (pos 0))
      reaches_own
      ((Decides-int_eq (cross (value_of d u e) (moved_by x0 ray_start)) (pos 0)).1 at_own)

  against_own : is_positive (dot (frame_of b) (span_of e)) ≡ false
  against_own =
      let t_in = times_some e steps in
      let whole =
      span_dot b.x b.y (pos steps.times) (step e).x (step e).y (span_of e).x (span_of e).y steps.x steps.y
      in
      let product =
      positive_product (pos steps.times) (inner (flat b) (flat b)) t_in some
      in
      let turned : pos steps.times *ℤ ((b.y *ℤ (step e).x) -ℤ (b.x *ℤ (step e).y))
      ≡ neg_ℤ (pos steps.times *ℤ inner (flat b) (flat b)) =
      ap₂ (λ x y. pos steps.times *ℤ ((b.y *ℤ x) -ℤ (b.x *ℤ y))) (back_x (step e).x b.y b_y) (sym b_x)
      ∙ equal
      (times (var (pos steps.times))
      (minus (times (var b.y) (negated (var b.y))) (times (var b.x) (var b.x))))
      (negated
      (times (var (pos steps.times))
      (plus (plus (times (var b.x) (var b.x)) (times (var b.y) (var b.y))) (times (num 0) (num 0)))))
      (omega arith) in
      test_not_less (pos 0) (dot (frame_of b) (span_of e)) (omega (arith, ints))
    where
      back_x : (x y : ℤ) → y ≡ neg_ℤ x → x ≡ neg_ℤ y
      back_x x y same = omega (arith, ints)

  -- the ray is square where it begins
  square_own : is_square m (ray_from p (flat b)) (at_depth (ray_from p (flat b)) ray_start) ≡ true
  square_own =
      let there =
      subst
      (λ t.
      IsFarEnd m (ray_from p (flat b)) x0
      (lowest_terms
      (depth_of m valid b p x0 starts p_is some passed row is none (plan_edge e s.number)))
      (cond t (square (abscissa_at e.a (flat b))) slanted)) across_own
      (ends_so m valid b p x0 starts p_is some passed row is none (plan_edge e s.number)
      (own_in, reaches_own))
      in
      subst (λ t. is_square m (ray_from p (flat b)) (at_depth (ray_from p (flat b)) t) ≡ true)
      (there.0 ∙ ap (λ z. rational (z -ℤ x0) (pos 1)) x0_is
      ∙ ap (λ z. rational z (pos 1)) (no_way x0)) there.1
    where
      no_way : (z : ℤ) → z -ℤ z ≡ pos 0
      no_way z = omega (arith, ints)

  -- ---- a side that faces back

  module _ (f : Edge) (f_steps : IsStep f) (f_across : is_across (flat b) f ≡ true)
      (f_along : is_positive (dot (frame_of b) (span_of f)) ≡ true) where
    -- its step is the opposite one
    opposed : ((step e).x ≡ neg_ℤ (step f).x) × ((step e).y ≡ neg_ℤ (step f).y)
    opposed =
        opposed_steps (step e).x (step e).y (step f).x (step f).y steps.coprime f_steps.coprime line less
      where
        t_in : pos 0 <ℤ pos f_steps.times
        t_in = times_some f f_steps

        line : (step e).x *ℤ (step f).y ≡ (step e).y *ℤ (step f).x
        line =
            let zero =
            zero_of_positive (pos f_steps.times) ((b.x *ℤ (step f).x) +ℤ (b.y *ℤ (step f).y)) t_in
            (sym
            (span_across b.x b.y (pos f_steps.times) (step f).x (step f).y (span_of f).x (span_of f).y
            f_steps.x f_steps.y)
            ∙ (Decides-int_eq (((span_of f).x *ℤ b.x) +ℤ ((span_of f).y *ℤ b.y)) (pos 0)).0 f_across)
            in
            let spread : (b.x *ℤ (step f).x) +ℤ (b.y *ℤ (step f).y)
            ≡ ((step e).y *ℤ (step f).x) -ℤ ((step e).x *ℤ (step f).y) =
            ap₂ (λ k l. (k *ℤ (step f).x) +ℤ (l *ℤ (step f).y)) b_x b_y
            ∙ equal
            (plus (times (var (step e).y) (var (step f).x))
            (times (negated (var (step e).x)) (var (step f).y)))
            (minus (times (var (step e).y) (var (step f).x)) (times (var (step e).x) (var (step f).y)))
            (omega arith) in
            omega (arith, ints)

        less : (((step e).x *ℤ (step f).x) +ℤ ((step e).y *ℤ (step f).y)) <ℤ pos 0
        less =
            let more =
            positive_factor (pos f_steps.times) ((b.y *ℤ (step f).x) -ℤ (b.x *ℤ (step f).y)) t_in
            (subst (λ z. pos 0 <ℤ z)
            (span_dot b.x b.y (pos f_steps.times) (step f).x (step f).y (span_of f).x (span_of f).y
            f_steps.x f_steps.y)
            (less_from (pos 0) (dot (frame_of b) (span_of f)) f_along))
            in
            let spread : (b.y *ℤ (step f).x) -ℤ (b.x *ℤ (step f).y)
            ≡ neg_ℤ (((step e).x *ℤ (step f).x) +ℤ ((step e).y *ℤ (step f).y)) =
            ap₂ (λ k l. (l *ℤ (step f).x) -ℤ (k *ℤ (step f).y)) b_x b_y
            ∙ equal
            (minus (times (negated (var (step e).x)) (var (step f).x))
            (times (var (step e).y) (var (step f).y)))
            (negated
            (plus (times (var (step e).x) (var (step f).x)) (times (var (step e).y) (var (step f).y))))
            (omega arith) in
            omega (arith, ints)

    step_x : (step f).x ≡ b.y
    step_x = let both = opposed in let first = both.0 in omega (arith, ints, b_y)

    step_y : (step f).y ≡ neg_ℤ b.x
    step_y = let both = opposed in let second = both.1 in omega (arith, ints, b_x)

    -- so it faces back
    normal_back : normal_over f ≡ opposite (flat b)
    unfolding normal_over
    normal_back = λ i. vector (step_y i) (neg_ℤ (step_x i)) (pos 0)

    step_is_frame : step f ≡ flat (frame_of b)
    step_is_frame =
        let level = f_steps.level in λ i. vector (step_x i) (step_y i) (level i)

    -- and lies at the position where the ray passes it
    module _ (y : ℤ) (f_through : is_through (frame_of b) (abscissa b p x0 starts)
        (moved_by x0 (rational (y -ℤ x0) (pos 1))) f ≡ true) where
      through_parts : (reaches_past (frame_of b) (abscissa b p x0 starts) f ≡ true)
          × (int_eq
          (cross (value_of (frame_of b) (abscissa b p x0 starts) f)
          (moved_by x0 (rational (y -ℤ x0) (pos 1)))) (pos 0)
          ≡ true)
      through_parts =
          and_parts (reaches_past d u f)
          (int_eq (cross (value_of d u f) (moved_by x0 (rational (y -ℤ x0) (pos 1)))) (pos 0)) f_through

      at_position : abscissa_at f.a (flat b) ≡ y
      at_position =
          let same =
          same_trans (rational (abscissa_at f.a (flat b)) (pos 1)) (value_of d u f)
          (moved_by x0 (rational (y -ℤ x0) (pos 1)))
          (value_on-IsRational (line_over d f) u (reaching_is_line d u f through_parts.0) p_is)
          (same_sym (value_of d u f) (rational (abscissa_at f.a (flat b)) (pos 1))
          (value_is_position b u f f_across))
          ((Decides-int_eq
          (cross (value_of d u f) (moved_by x0 (rational (y -ℤ x0) (pos 1)))) (pos 0)).0
          through_parts.1)
          in
          let spread =
          cross_eq (rational (abscissa_at f.a (flat b)) (pos 1)) (moved_by x0 (rational (y -ℤ x0) (pos 1)))
          in
          omega (arith, ints)

      position_back : (side_over f).position ≡ neg_ℤ y
      position_back =
          ap (λ v. (f.a.x *ℤ v.x) +ℤ (f.a.y *ℤ v.y)) normal_back
          ∙ equal
          (plus (times (var f.a.x) (negated (var b.x))) (times (var f.a.y) (negated (var b.y))))
          (negated (plus (times (var f.a.x) (var b.x)) (times (var f.a.y) (var b.y)))) (omega arith)
          ∙ ap neg_ℤ at_position

    -- ---- its plain points

    module _ (t : Arrow) (t_in : IsRational t) where
      k_in : pos 0 <ℤ (t.x *ℤ inner (flat b) (flat b))
      k_in = positive_product t.x (inner (flat b) (flat b)) t_in some

      -- a point of the ray has a multiple of the abscissa
      reads_frame : times_w (at_depth (ray_from p (flat b)) t) (flat (frame_of b))
          ≡ (t.x *ℤ inner (flat b) (flat b)) *ℤ dot (frame_of b) (arrow p.x p.y)
      reads_frame = reads p.x p.y p.z b.x b.y (t.x *ℤ inner (flat b) (flat b)) (t.y *ℤ p.w)
        where
          reads : (x y z bx by k far : ℤ)
              → ((((x *ℤ k) +ℤ (bx *ℤ far)) *ℤ by) +ℤ (((y *ℤ k) +ℤ (by *ℤ far)) *ℤ neg_ℤ bx))
              +ℤ (((z *ℤ k) +ℤ (pos 0 *ℤ far)) *ℤ pos 0)
              ≡ k *ℤ dot (arrow by (neg_ℤ bx)) (arrow x y)
          reads x y z bx by k far =
              equal
              (plus
              (plus
              (times (plus (times (var x) (var k)) (times (var bx) (var far))) (var by))
              (times (plus (times (var y) (var k)) (times (var by) (var far))) (negated (var bx))))
              (times (plus (times (var z) (var k)) (times (num 0) (var far))) (num 0)))
              (times (var k)
              (dot_by (arrow by (neg_ℤ bx)) (arrow x y) (var by) (negated (var bx)) (var x) (var y)))
              (omega arith)

      free_frame : is_abscissa m (flat (frame_of b))
          (reading (at_depth (ray_from p (flat b)) t) (flat (frame_of b)))
          ≡ false
      free_frame =
          ap₂ (λ w z. is_abscissa m (flat (frame_of b)) (arrow w z))
          (mul_comm p.w (t.x *ℤ inner (flat b) (flat b))) reads_frame
          ∙ abscissa_sees_no_factor m (flat (frame_of b)) (t.x *ℤ inner (flat b) (flat b)) u k_in
          ∙ none

      free_turned : is_abscissa m (flat (arrows.opposite (frame_of b)))
          (reading (at_depth (ray_from p (flat b)) t) (flat (arrows.opposite (frame_of b))))
          ≡ false
      free_turned =
          let q = at_depth (ray_from p (flat b)) t in
          ap (λ z. is_abscissa m (flat (arrows.opposite (frame_of b))) (rational z q.w))
          (turned q.x q.y q.z (frame_of b).x (frame_of b).y)
          ∙ abscissa_turned m (frame_of b) (reading q (flat (frame_of b))) ∙ free_frame
        where
          turned : (x y z a c : ℤ)
              → ((x *ℤ neg_ℤ a) +ℤ (y *ℤ neg_ℤ c)) +ℤ (z *ℤ pos 0)
              ≡ neg_ℤ (((x *ℤ a) +ℤ (y *ℤ c)) +ℤ (z *ℤ pos 0))
          turned x y z a c =
              equal
              (plus (plus (times (var x) (negated (var a))) (times (var y) (negated (var c))))
              (times (var z) (num 0)))
              (negated (plus (plus (times (var x) (var a)) (times (var y) (var c)))
              (times (var z) (num 0)))) (omega arith)

      -- so it is over no abscissa of the direction
      free : is_abscissa m (direction_of f)
          (reading (at_depth (ray_from p (flat b)) t) (direction_of f))
          ≡ false
      free = by (runs_along f) refl
        where
          by : (c : Bool) → runs_along f ≡ c
              → is_abscissa m (direction_of f)
              (reading (at_depth (ray_from p (flat b)) t) (direction_of f))
              ≡ false
          by true along =
              ap (λ v. is_abscissa m v (reading (at_depth (ray_from p (flat b)) t) v))
              (direction_along f along ∙ step_is_frame)
              ∙ free_frame
          by false back =
              ap (λ v. is_abscissa m v (reading (at_depth (ray_from p (flat b)) t) v))
              (direction_against f back ∙ ap opposite step_is_frame)
              ∙ free_turned

      -- and at no height but where p is at it
      same_height : (z : ℤ)
          → int_eq (at_depth (ray_from p (flat b)) t).z (z *ℤ (at_depth (ray_from p (flat b)) t).w)
          ≡ int_eq p.z (z *ℤ p.w)
      same_height z =
          ap₂ int_eq (level p.z (t.x *ℤ inner (flat b) (flat b)) (t.y *ℤ p.w))
          (scaled z p.w (t.x *ℤ inner (flat b) (flat b)))
          ∙ equality_of_multiples (t.x *ℤ inner (flat b) (flat b)) p.z (z *ℤ p.w) k_in
        where
          level : (z k far : ℤ) → (z *ℤ k) +ℤ (pos 0 *ℤ far) ≡ k *ℤ z
          level z k far =
              equal (plus (times (var z) (var k)) (times (num 0) (var far))) (times (var k) (var z))
              (omega arith)

          scaled : (z w k : ℤ) → z *ℤ (w *ℤ k) ≡ k *ℤ (z *ℤ w)
          scaled z w k =
              equal (times (var z) (times (var w) (var k))) (times (var k) (times (var z) (var w)))
              (omega arith)

      off_heights : is_at_height m (at_depth (ray_from p (flat b)) t) ≡ false
      off_heights =
          ap (λ (g : Product → Bool). list_any g (products_of m))
          (fun_ext (λ q. ap₂ (λ r w. r || w) (same_height q.prism.z0) (same_height q.prism.z1)))
          ∙ heights

      off_cuts : is_off_side_cuts m (Some f) (at_depth (ray_from p (flat b)) t) ≡ true
      off_cuts =
          ap₂ (λ a c. not a && c) free
          (ap₂ (λ a c. not a && not c) off_heights (same_height m.ground_height ∙ ground))

      plain_on : (other : Space) (j : ℕ) → slice_get (edges_of other.prism.loops) j ≡ Some f
          → is_on (at_depth (ray_from p (flat b)) t) f ≡ true
          → is_between_heights other.prism.z0 other.prism.z1 p ≡ true
          → is_plain m other.prism (kind.Side j) (at_depth (ray_from p (flat b)) t) ≡ true
      plain_on other j found lies between =
          let q = at_depth (ray_from p (flat b)) t in
          ap (λ o. is_of_side other.prism o q && is_off_side_cuts m o q) found
          ∙ and_from (is_of_side other.prism (Some f) q) (is_off_side_cuts m (Some f) q)
          (and_from (is_on q f) (is_between_heights other.prism.z0 other.prism.z1 q) lies
          (height_at b p x0 starts p_is some t t_in other.prism.z0 other.prism.z1 ∙ between))
          off_cuts

  -- ---- arrival

  arrives_on : (y : ℤ) (k : ℕ)
      → (begins : BeginsAt m (ray_from p (flat b))
      (sees_spaces m valid b p x0 starts p_is some passed row is none) k
      (rational (y -ℤ x0) (pos 1)))
      → FacesBack m valid b p x0 starts p_is some passed row is none begins.space
      (rational (y -ℤ x0) (pos 1))
      → ArrivesAt m (ray_from p (flat b)) x0 y k
  arrives_on y k begins side =
      let loops = begins.space.prism.loops in
      let f_steps =
      step_is side.edge
      (proper_there side.edge (edges_of loops)
      (plan_edges_are_proper loops (plan_of_solid begins.space.prism begins.space.is_solid))
      side.stands)
      in
      let place = place_of side.edge (edges_of loops) side.stands in
      record {
        space = begins.space;
        in_model = begins.in_model;
        number_is = begins.number_is;
        kind = kind.Side place.0;
        surface = side_over side.edge;
        surface_is = ap side_of place.1;
        faces_back = normal_back side.edge f_steps side.across side.along;
        far_away = position_back side.edge f_steps side.across side.along y side.through;
        plain =
            plain_on side.edge f_steps side.across side.along (rational (y -ℤ x0) (pos 1))
            (omega (arith, ints)) begins.space place.0 place.1 side.on side.high;
      }

  -- what is seen from a plain point of a side
  pub sees_from_side : SeesFromFace m (ray_from p (flat b)) x0 s
  sees_from_side = record {
    sees = sees_spaces m valid b p x0 starts p_is some passed row is none;
    ends =
        ends_at_start m valid b p x0 starts p_is some passed row is none s s_in e e_in through_own
        against_own high;
    square_start = square_own;
    arrives =
        λ y k begins square_there.
        arrives_on y k begins
        (faces_back m valid b p x0 starts p_is some passed row is none k (rational (y -ℤ x0) (pos 1))
        (omega (arith, ints)) begins square_there);
  }
