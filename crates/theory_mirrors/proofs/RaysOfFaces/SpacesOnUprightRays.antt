-- On a ray up or down the space of a top or a bottom ends where the ray begins, and where a space begins it
-- has a bottom or a top that faces back.
use Rattle.std.proofs.Common.{◌≡◌, refl, sym, ap, ap₂, ◌∙◌, arith, subst, ◌⊎◌, inl, inr, ℕ, ℤ, pos}
use Rattle.std.proofs.Common.{negsuc, neg_ℤ, ◌+ℤ◌, ◌-ℤ◌, ◌*ℤ◌, ◌<ℤ◌, ◌≤ℤ◌, Bool, true, false, not}
use Rattle.std.proofs.Common.{◌&&◌, IsTrue, List, [], ◌∷◌, if◌then◌else◌, int_lt, int_le}
use Rattle.std.specs.Ordering.{int_eq}
use Rattle.std.specs.List.{AllByRecursion}
use Rattle.std.proofs.lemmas.Int.{ints}
use Rattle.std.proofs.lemmas.Bool.{and_from, false≢true}
use Rattle.std.proofs.lemmas.Bool.Decides.{Decides-int_eq}
use Rattle.theory_lists.specs.Members.{Stands}
use Rattle.theory_lists.specs.Parity.{differ}
use Rattle.theory_numbers.specs.Arrows.{Arrow, cross}
use Rattle.theory_numbers.specs.Rationals.{IsRational, is_below, is_at_most, rational}
use Rattle.theory_numbers.proofs.Shapes.{var, num, plus, minus, times, negated, equal, cross_eq}
use Rattle.theory_numbers.proofs.Signs.{same_tests, less_from, test_less, at_most_from, test_at_most}
use Rattle.theory_numbers.proofs.Signs.{test_not_less, test_not_at_most, less_or_not}
use Rattle.theory_cuttings.specs.Columns.{is_odd_below, is_odd_up_to}
use Rattle.theory_cuttings.specs.Passages.{ray_start}
use Rattle.sb_fraction.specs.Directions.{axis_x, axis_z}
use Rattle.sb_fraction.specs.Spots.{Spot, spot, IsSpot, inner, opposite}
use Rattle.theory_plans.specs.Inside.{is_in_plan}
use Rattle.sb_model.specs.declared.faces.face.FaceKind.TheVariants as kind
use Rattle.sb_model.specs.declared.products.Space.{Space}
use Rattle.sb_model.specs.Building.{Building, is_building}
use Rattle.sb_model.specs.Surfaces.Faces.{bottom_of, top_of}
use Rattle.sb_model.specs.Passages.{ray_from, at_depth}
use Rattle.sb_model.specs.Surfaces.PlainPoints.{is_on_plan_edge, is_off_level_cuts}
use Rattle.sb_model.specs.PlanEdges.{PlanEdge, is_abscissa}
use Rattle.sb_model.specs.Solids.{Upright, is_upright}
use Rattle.theory_models.proofs.NumbersApart.{of_space, space_stands}
use Rattle.theory_parity.specs.Below.{IsWay}
use Rattle.theory_gaps.specs.Gaps.{is_present}
use Rattle.theory_gaps.specs.Borders.{entry_along, exit_along}
use Rattle.theory_gaps.proofs.Rays.WalkUpAndDown.{AreBelow, present_is_inside, off_own_edges, upright_normal}
use Rattle.theory_gaps.proofs.Rays.WalkUpAndDown.{depth_from, of_prism, entry_first}
use Rattle.theory_gaps.proofs.Rays.WalkUpAndDown.{start_up, start_down}
use Rattle.theory_mirrors.proofs.RaysOfFaces.SpacesAlongARay.{SeesSpaces, EndsAtStart, BeginsAt}
use Rattle.theory_mirrors.proofs.RaysOfFaces.WaysFromFaces.{SeesFromFace}
use Rattle.theory_sight.specs.Crossings.{StartsAt}

-- ---- whole positions

-- the order of whole depths is that of their positions
below_whole : (x0 y z : ℤ) → is_below (depth_from x0 y) (depth_from x0 z) ≡ int_lt y z
below_whole x0 y z =
    let spread = cross_eq (depth_from x0 y) (depth_from x0 z) in
    same_tests (is_below (depth_from x0 y) (depth_from x0 z)) (int_lt y z)
    (λ less.
    let order = less_from (pos 0) (cross (depth_from x0 y) (depth_from x0 z)) less in
    test_less y z (omega (arith, ints)))
    (λ less.
    let order = less_from y z less in
    test_less (pos 0) (cross (depth_from x0 y) (depth_from x0 z)) (omega (arith, ints)))

up_to_whole : (x0 y z : ℤ) → is_at_most (depth_from x0 y) (depth_from x0 z) ≡ int_le y z
up_to_whole x0 y z =
    let spread = cross_eq (depth_from x0 y) (depth_from x0 z) in
    same_tests (is_at_most (depth_from x0 y) (depth_from x0 z)) (int_le y z)
    (λ least.
    let order = at_most_from (pos 0) (cross (depth_from x0 y) (depth_from x0 z)) least in
    test_at_most y z (omega (arith, ints)))
    (λ least.
    let order = at_most_from y z least in
    test_at_most (pos 0) (cross (depth_from x0 y) (depth_from x0 z)) (omega (arith, ints)))

-- two positions as values
abbrev two_at : ℤ → ℤ → ℤ → List Arrow
two_at x0 a b = depth_from x0 a ∷ depth_from x0 b ∷ []

below_two : (x0 a b z : ℤ)
    → is_odd_below (two_at x0 a b) (depth_from x0 z) ≡ differ (int_lt a z) (differ (int_lt b z) false)
below_two x0 a b z =
    ap₂ (λ s t. differ s (differ t false)) (below_whole x0 a z) (below_whole x0 b z)

up_to_two : (x0 a b z : ℤ)
    → is_odd_up_to (two_at x0 a b) (depth_from x0 z) ≡ differ (int_le a z) (differ (int_le b z) false)
up_to_two x0 a b z =
    ap₂ (λ s t. differ s (differ t false)) (up_to_whole x0 a z) (up_to_whole x0 b z)

-- at the second position the solid ends
ends_there : (a z : ℤ) → a <ℤ z
    → (differ (int_lt a z) (differ (int_lt z z) false) ≡ true)
    × (differ (int_le a z) (differ (int_le z z) false) ≡ false)
ends_there a z less = (
  ap₂ (λ s t. differ s (differ t false)) (test_less a z less)
      (test_not_less z z (omega (arith, ints))),
  ap₂ (λ s t. differ s (differ t false)) (test_at_most a z (omega (arith, ints)))
      (test_at_most z z (omega (arith, ints))),
)

-- and where it begins there is the first
begins_first : (a b z : ℤ) → a <ℤ b → differ (int_lt a z) (differ (int_lt b z) false) ≡ false
    → differ (int_le a z) (differ (int_le b z) false) ≡ true → a ≡ z
begins_first a b z less below up_to = by (less_or_not a z) (less_or_not z a)
  where
    earlier : a <ℤ z → b <ℤ z ⊎ (z ≤ℤ b) → a ≡ z
    earlier low (inl high) =
        absurd
        (false≢true
        (sym
        (ap₂ (λ s t. differ s (differ t false)) (test_at_most a z (omega (arith, ints)))
        (test_at_most b z (omega (arith, ints))))
        ∙ up_to))
    earlier low (inr high) =
        absurd
        (false≢true
        (sym below
        ∙ ap₂ (λ s t. differ s (differ t false)) (test_less a z low) (test_not_less b z high)))

    by : (a <ℤ z) ⊎ (z ≤ℤ a) → (z <ℤ a) ⊎ (a ≤ℤ z) → a ≡ z
    by (inl low) also = earlier low (less_or_not b z)
    by (inr least) (inr most) = omega (arith, ints, least, most)
    by (inr least) (inl high) =
        absurd
        (false≢true
        (sym
        (ap₂ (λ s t. differ s (differ t false)) (test_not_at_most a z high)
        (test_not_at_most b z (omega (arith, ints))))
        ∙ up_to))

-- ---- the ray

module _ (m : Building) (valid : IsTrue (is_building m)) (up : Bool) (p : Spot) (x0 : ℤ)
    (starts : StartsAt (ray_from p (upright_normal up)) x0) (p_is : IsSpot p) (d : Arrow)
    (d_is : IsWay d) (off : is_on_plan_edge m p ≡ false) (passed : List PlanEdge)
    (below : AreBelow m d p passed) where
  -- entry and exit of a prism whose product is present
  abbrev ends_of : Bool → Upright → List Arrow
  ends_of present s =
      if present
      then depth_from x0 (entry_along (upright_normal up) s)
      ∷ depth_from x0 (exit_along (upright_normal up) s) ∷ []
      else []

  some_up : pos 0 <ℤ inner (upright_normal up) (upright_normal up)
  some_up = by up
    where
      by : (t : Bool) → pos 0 <ℤ inner (upright_normal t) (upright_normal t)
      by true = omega (arith, ints)
      by false = omega (arith, ints)

  wide : (s : Upright) → IsTrue (is_upright s)
      → entry_along (upright_normal up) s <ℤ exit_along (upright_normal up) s
  wide s solid = entry_first m valid up p x0 starts p_is d d_is off passed below s solid

  -- the spaces of the model on the ray
  pub upright_sees : SeesSpaces m (ray_from p (upright_normal up))
  upright_sees = record {
    model = valid;
    start = p_is;
    some = some_up;
    values = λ s. ends_of (is_present passed s.number) s.prism;
    rational = λ s s_in. of_ends (is_present passed s.number) s.prism;
    solid_is =
        λ s s_in t t_in.
        of_prism m valid up p x0 starts p_is d d_is off passed below (of_space s)
        (space_stands m s s_in) s.is_solid t t_in;
  }
    where
      of_ends : (present : Bool) (s : Upright) → AllByRecursion IsRational (ends_of present s)
      of_ends true s = (omega (arith, ints), (omega (arith, ints), tt))
      of_ends false s = tt

  -- a space is present in whose plan the point lies
  is_there : (s : Space) → Stands s m.spaces
      → is_in_plan s.prism.loops p ≡ is_present passed s.number
  is_there s s_in =
      present_is_inside m valid d p d_is p_is passed below (of_space s) (space_stands m s s_in)
      (off_own_edges m p off (of_space s) (space_stands m s s_in))

  start_at : ray_start ≡ depth_from x0 x0
  start_at = ap (λ z. rational z (pos 1)) (none x0)
    where
      none : (z : ℤ) → pos 0 ≡ z -ℤ z
      none z = omega (arith, ints)

  -- the space that the ray leaves where it begins ends there
  pub upright_ends : (s : Space) → Stands s m.spaces → is_in_plan s.prism.loops p ≡ true
      → exit_along (upright_normal up) s.prism ≡ x0
      → EndsAtStart m (ray_from p (upright_normal up)) upright_sees s
  unfolding upright_sees
  upright_ends s s_in inside leaves =
      let there : is_present passed s.number ≡ true = sym (is_there s s_in) ∙ inside in
      let ends =
      ends_there (entry_along (upright_normal up) s.prism) x0
      (subst (λ z. entry_along (upright_normal up) s.prism <ℤ z) leaves (wide s.prism s.is_solid))
      in
      record {
        in_model = s_in;
        below =
            ap₂ is_odd_below (ap (λ b. ends_of b s.prism) there) start_at
            ∙ below_two x0 (entry_along (upright_normal up) s.prism)
            (exit_along (upright_normal up) s.prism) x0
            ∙ ap
            (λ z. differ (int_lt (entry_along (upright_normal up) s.prism) x0) (differ (int_lt z x0) false))
            leaves
            ∙ ends.0;
        up_to =
            ap₂ is_odd_up_to (ap (λ b. ends_of b s.prism) there) start_at
            ∙ up_to_two x0 (entry_along (upright_normal up) s.prism)
            (exit_along (upright_normal up) s.prism) x0
            ∙ ap
            (λ z. differ (int_le (entry_along (upright_normal up) s.prism) x0) (differ (int_le z x0) false))
            leaves
            ∙ ends.1;
      }

  -- a space that begins at a position has the point in its plan, and is entered there
  pub upright_begins : (k : ℕ) (y : ℤ)
      → (begins : BeginsAt m (ray_from p (upright_normal up)) upright_sees k (depth_from x0 y))
      → (is_in_plan begins.space.prism.loops p ≡ true)
      × (entry_along (upright_normal up) begins.space.prism ≡ y)
  unfolding upright_sees
  upright_begins k y begins =
      by (is_present passed begins.space.number) refl begins.below begins.up_to
    where
      s : Space
      s = begins.space

      by : (b : Bool) → is_present passed begins.space.number ≡ b
          → is_odd_below (ends_of b begins.space.prism) (depth_from x0 y) ≡ false
          → is_odd_up_to (ends_of b begins.space.prism) (depth_from x0 y) ≡ true
          → (is_in_plan begins.space.prism.loops p ≡ true)
          × (entry_along (upright_normal up) begins.space.prism ≡ y)
      by false absent below up_to = absurd (false≢true up_to)
      by true present below up_to = (
        is_there begins.space begins.in_model ∙ present,
        begins_first (entry_along (upright_normal up) begins.space.prism)
            (exit_along (upright_normal up) begins.space.prism) y
            (wide begins.space.prism begins.space.is_solid)
            (sym
            (below_two x0 (entry_along (upright_normal up) begins.space.prism)
            (exit_along (upright_normal up) begins.space.prism) y)
            ∙ below)
            (sym
            (up_to_two x0 (entry_along (upright_normal up) begins.space.prism)
            (exit_along (upright_normal up) begins.space.prism) y)
            ∙ up_to),
      )

-- ---- the point at which the ray arrives

-- it has the plan of the point at which it begins
module _ (m : Building) (p : Spot) (q : Spot) (same_x : q.x ≡ p.x) (same_y : q.y ≡ p.y) (same_w : q.w ≡ p.w)
  where
    off_level_cuts : is_off_level_cuts m p ≡ true → is_off_level_cuts m q ≡ true
    off_level_cuts off =
        ap₂ (λ a b. not a && not b)
        (λ i. is_on_plan_edge m (spot (same_x i) (same_y i) (pos 0) (same_w i)))
        (ap₂ (λ k w. is_abscissa m axis_x (rational k w))
        (reads q.x q.y q.z p.x p.y p.z same_x same_y) same_w)
        ∙ off
      where
        reads : (x y z a b c : ℤ) → x ≡ a → y ≡ b
            → ((x *ℤ pos 1) +ℤ (y *ℤ pos 0)) +ℤ (z *ℤ pos 0)
            ≡ ((a *ℤ pos 1) +ℤ (b *ℤ pos 0)) +ℤ (c *ℤ pos 0)
        reads x y z a b c one two = omega (arith, ints, one, two)

    plan_there : (s : Upright) → is_in_plan s.loops p ≡ true → is_in_plan s.loops q ≡ true
    plan_there s inside =
        (λ i. is_in_plan s.loops (spot (same_x i) (same_y i) (pos 0) (same_w i))) ∙ inside

    plain_at : (s : Upright) (z : ℤ) → is_in_plan s.loops p ≡ true → is_off_level_cuts m p ≡ true
        → q.z ≡ z *ℤ p.w
        → ((is_in_plan s.loops q && int_eq q.z (z *ℤ q.w)) && is_off_level_cuts m q) ≡ true
    plain_at s z inside off height =
        and_from (is_in_plan s.loops q && int_eq q.z (z *ℤ q.w)) (is_off_level_cuts m q)
        (and_from (is_in_plan s.loops q) (int_eq q.z (z *ℤ q.w)) (plan_there s inside)
        ((Decides-int_eq q.z (z *ℤ q.w)).1 (height ∙ ap (λ w. z *ℤ w) (sym same_w))))
        (off_level_cuts off)

one_times : (x far : ℤ) → (x *ℤ (pos 1 *ℤ pos 1)) +ℤ (pos 0 *ℤ far) ≡ x
one_times x far =
    equal (plus (times (var x) (times (num 1) (num 1))) (times (num 0) (var far))) (var x) (omega arith)

one_of : (w : ℤ) → w *ℤ (pos 1 *ℤ pos 1) ≡ w
one_of w = equal (times (var w) (times (num 1) (num 1))) (var w) (omega arith)

arrives_up : (x0 y z w : ℤ) → z ≡ x0 *ℤ w
    → (z *ℤ (pos 1 *ℤ pos 1)) +ℤ (pos 1 *ℤ ((y -ℤ x0) *ℤ w)) ≡ y *ℤ w
arrives_up x0 y z w same =
    ap (λ k. (k *ℤ (pos 1 *ℤ pos 1)) +ℤ (pos 1 *ℤ ((y -ℤ x0) *ℤ w))) same
    ∙ equal
    (plus (times (times (var x0) (var w)) (times (num 1) (num 1)))
    (times (num 1) (times (minus (var y) (var x0)) (var w)))) (times (var y) (var w)) (omega arith)

arrives_down : (x0 y z w : ℤ) → z ≡ neg_ℤ (x0 *ℤ w)
    → (z *ℤ (pos 1 *ℤ pos 1)) +ℤ (negsuc 0 *ℤ ((y -ℤ x0) *ℤ w)) ≡ neg_ℤ y *ℤ w
arrives_down x0 y z w same =
    ap (λ k. (k *ℤ (pos 1 *ℤ pos 1)) +ℤ (negsuc 0 *ℤ ((y -ℤ x0) *ℤ w))) same
    ∙ equal
    (plus (times (negated (times (var x0) (var w))) (times (num 1) (num 1)))
    (times (negated (num 1)) (times (minus (var y) (var x0)) (var w))))
    (times (negated (var y)) (var w)) (omega arith)

module _ (m : Building) (valid : IsTrue (is_building m)) (p : Spot) (x0 : ℤ) (p_is : IsSpot p)
    (d : Arrow) (d_is : IsWay d) (off : is_on_plan_edge m p ≡ false)
    (cuts : is_off_level_cuts m p ≡ true) (passed : List PlanEdge)
    (below : AreBelow m d p passed) (s : Space) (s_in : Stands s m.spaces)
    (inside : is_in_plan s.prism.loops p ≡ true) where
  -- from a top
  pub sees_from_top : (starts : StartsAt (ray_from p axis_z) x0) → s.prism.z1 ≡ x0
      → SeesFromFace m (ray_from p axis_z) x0 s
  sees_from_top starts leaves = record {
    sees = upright_sees m valid true p x0 starts p_is d d_is off passed below;
    ends = upright_ends m valid true p x0 starts p_is d d_is off passed below s s_in inside leaves;
    square_start = refl;
    arrives =
        λ y k begins square_there.
        let at = upright_begins m valid true p x0 starts p_is d d_is off passed below k y begins in
        record {
          space = begins.space;
          in_model = begins.in_model;
          number_is = begins.number_is;
          kind = kind.Bottom;
          surface = bottom_of begins.space.prism;
          surface_is = refl;
          faces_back = refl;
          far_away = ap neg_ℤ at.1;
          plain =
              plain_at m p (at_depth (ray_from p axis_z) (rational (y -ℤ x0) (pos 1)))
              (one_times p.x ((y -ℤ x0) *ℤ p.w)) (one_times p.y ((y -ℤ x0) *ℤ p.w)) (one_of p.w)
              begins.space.prism begins.space.prism.z0 at.0 cuts
              (arrives_up x0 y p.z p.w (start_up p x0 starts) ∙ ap (λ z. z *ℤ p.w) (sym at.1));
        };
  }

  -- from a bottom
  pub sees_from_bottom : (starts : StartsAt (ray_from p (opposite axis_z)) x0) → neg_ℤ s.prism.z0 ≡ x0
      → SeesFromFace m (ray_from p (opposite axis_z)) x0 s
  sees_from_bottom starts leaves = record {
    sees = upright_sees m valid false p x0 starts p_is d d_is off passed below;
    ends = upright_ends m valid false p x0 starts p_is d d_is off passed below s s_in inside leaves;
    square_start = refl;
    arrives =
        λ y k begins square_there.
        let at = upright_begins m valid false p x0 starts p_is d d_is off passed below k y begins in
        let height = at.1 in
        record {
          space = begins.space;
          in_model = begins.in_model;
          number_is = begins.number_is;
          kind = kind.Top;
          surface = top_of begins.space.prism;
          surface_is = refl;
          faces_back = refl;
          far_away = omega (arith, ints);
          plain =
              plain_at m p (at_depth (ray_from p (opposite axis_z)) (rational (y -ℤ x0) (pos 1)))
              (one_times p.x ((y -ℤ x0) *ℤ p.w)) (one_times p.y ((y -ℤ x0) *ℤ p.w)) (one_of p.w)
              begins.space.prism begins.space.prism.z1 at.0 cuts
              (arrives_down x0 y p.z p.w (start_down p x0 starts)
              ∙ ap (λ z. z *ℤ p.w) (turned begins.space.prism.z1 y height));
        };
  }
    where
      turned : (z y : ℤ) → neg_ℤ z ≡ y → neg_ℤ y ≡ z
      turned z y same = omega (arith, ints)
