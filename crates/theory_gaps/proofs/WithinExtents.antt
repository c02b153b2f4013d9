-- A point of a prism reads strictly between two of its corners along any vector, so it lies strictly
-- within the prism's extent.
use Rattle.std.proofs.Common.{◌≡◌, ◌⊎◌, inl, inr, refl, sym, ap, ap₂, ◌∙◌, arith, subst, ℤ, pos, neg_ℤ}
use Rattle.std.proofs.Common.{◌+ℤ◌, ◌*ℤ◌, ◌<ℤ◌, ◌≤ℤ◌, Bool, true, false, not, int_lt}
use Rattle.std.proofs.Common.{List, [], ◌∷◌, cond}
use Rattle.std.specs.Int.{int_min, int_max}
use Rattle.std.specs.List.{AllByRecursion, fold, list_any}
use Rattle.std.proofs.lemmas.Int.{ints}
use Rattle.std.proofs.lemmas.Bool.{and_parts, false≢true}
use Rattle.theory_lists.specs.Members.{Stands}
use Rattle.theory_lists.specs.Parity.{differ, is_odd_number}
use Rattle.theory_lists.proofs.Members.{all_stands, one_of_any}
use Rattle.theory_lists.proofs.Blocks.{all-append, stands_before, stands_behind}
use Rattle.theory_lists.proofs.Parity.{is_odd_number-none}
use Rattle.theory_numbers.specs.Arrows.{Arrow, arrow, opposite, cross, dot}
use Rattle.theory_numbers.specs.Rationals.{IsBelow, rational}
use Rattle.theory_numbers.proofs.Vectors.Arrows.{opposite-dot, dot-opposite}
use Rattle.theory_numbers.proofs.Products.{scale_less, scale_at_most, weak_square, square_of_zero}
use Rattle.theory_numbers.proofs.Ring.{mul_comm, mul-zero, zero-mul, mul-neg, neg-mul}
use Rattle.theory_numbers.proofs.Shapes.{var, plus, negated, times, equal, cross_eq, dot_eq}
use Rattle.theory_numbers.proofs.Signs.{less_from, not_less_from, sign_cases, above_or_not}
use Rattle.sb_fraction.specs.declared.point.Point.{Point}
use Rattle.sb_fraction.specs.Spots.{Spot, IsSpot, Vector, inner, reading}
use Rattle.sb_fraction.specs.Edges.{Edge, is_on}
use Rattle.sb_fraction.specs.Crossings.{abscissa_at}
use Rattle.sb_fraction.specs.Lines.{flat, lies_after, reaches_past}
use Rattle.theory_plans.specs.LoopEdges.{edges_back, edges_of_loop, edges_of}
use Rattle.theory_plans.specs.Inside.{is_in_plan}
use Rattle.sb_model.specs.Labels.{readings_in, readings_of, least_of, greatest_of}
use Rattle.sb_model.specs.Labels.{low_along, high_along}
use Rattle.sb_model.specs.Solids.{Upright, is_in_solid, is_between_heights}
use Rattle.theory_parity.specs.Below.{IsWay, abscissa_in, is_below_at}
use Rattle.theory_parity.proofs.Rays.InsideByBelow.{inside_by_below}
use Rattle.theory_sight.proofs.Crossings.BandsOfPrisms.{low_end_of, high_end_of}

-- ---- the least and the greatest of some readings

abbrev IsBetween : ℤ → ℤ → ℤ → Type 0
IsBetween low high z = (low ≤ℤ z) × (z ≤ℤ high)

min_is : (a b : ℤ) → (int_min a b ≤ℤ a) × (int_min a b ≤ℤ b)
min_is a b = by (int_lt b a) refl
  where
    by : (t : Bool) → int_lt b a ≡ t → (cond t b a ≤ℤ a) × (cond t b a ≤ℤ b)
    by true less = (let l = less_from b a less in omega (arith, ints), omega (arith, ints))
    by false more = (omega (arith, ints), let l = not_less_from b a more in omega (arith, ints))

max_is : (a b : ℤ) → (a ≤ℤ int_max a b) × (b ≤ℤ int_max a b)
max_is a b = by (int_lt b a) refl
  where
    by : (t : Bool) → int_lt b a ≡ t → (a ≤ℤ cond t a b) × (b ≤ℤ cond t a b)
    by true less = (omega (arith, ints), let l = less_from b a less in omega (arith, ints))
    by false more = (let l = not_less_from b a more in omega (arith, ints), omega (arith, ints))

least_fold : (z : ℤ) (zs : List ℤ) (y : ℤ) → (y ≡ z) ⊎ Stands y zs → fold int_min z zs ≤ℤ y
least_fold z [] y (inl same) = omega (arith, ints, same)
least_fold z [] y (inr there) = absurd there
least_fold z (x ∷ xs) y at = by (least_fold (int_min z x) xs) at
  where
    by : ((y : ℤ) → (y ≡ int_min z x) ⊎ Stands y xs → fold int_min (int_min z x) xs ≤ℤ y)
        → (y ≡ z) ⊎ Stands y (x ∷ xs) → fold int_min (int_min z x) xs ≤ℤ y
    by later (inl same) =
        let low = later (int_min z x) (inl refl) in
        let both = (min_is z x).0 in
        omega (arith, ints, same)
    by later (inr (inl same)) =
        let low = later (int_min z x) (inl refl) in
        let both = (min_is z x).1 in
        omega (arith, ints, same)
    by later (inr (inr there)) = later y (inr there)

greatest_fold : (z : ℤ) (zs : List ℤ) (y : ℤ) → (y ≡ z) ⊎ Stands y zs → y ≤ℤ fold int_max z zs
greatest_fold z [] y (inl same) = omega (arith, ints, same)
greatest_fold z [] y (inr there) = absurd there
greatest_fold z (x ∷ xs) y at = by (greatest_fold (int_max z x) xs) at
  where
    by : ((y : ℤ) → (y ≡ int_max z x) ⊎ Stands y xs → y ≤ℤ fold int_max (int_max z x) xs)
        → (y ≡ z) ⊎ Stands y (x ∷ xs) → y ≤ℤ fold int_max (int_max z x) xs
    by later (inl same) =
        let high = later (int_max z x) (inl refl) in
        let both = (max_is z x).0 in
        omega (arith, ints, same)
    by later (inr (inl same)) =
        let high = later (int_max z x) (inl refl) in
        let both = (max_is z x).1 in
        omega (arith, ints, same)
    by later (inr (inr there)) = later y (inr there)

reading_between : (zs : List ℤ) (y : ℤ) → Stands y zs → IsBetween (least_of zs) (greatest_of zs) y
reading_between [] y there = absurd there
reading_between (z ∷ zs) y there = (least_fold z zs y there, greatest_fold z zs y there)

-- ---- corners

module _ (s : Upright) (a : Vector) where
  low : ℤ
  low = low_along s a

  high : ℤ
  high = high_along s a

  -- both corners over the plan point read within the extent
  pub record IsCorner (c : Point) : Type 0 where
    pub at_low : IsBetween (low_along s a) (high_along s a) (abscissa_at c a +ℤ (s.z0 *ℤ a.z))
    pub at_high : IsBetween (low_along s a) (high_along s a) (abscissa_at c a +ℤ (s.z1 *ℤ a.z))

  abbrev AllRead : List ℤ → Type 0
  AllRead zs = (z : ℤ) → Stands z zs → IsBetween (low_along s a) (high_along s a) z

  corners_in_loop : (points : List Point) → AllRead (readings_in s a points)
      → AllByRecursion IsCorner points
  corners_in_loop [] read = tt
  corners_in_loop (c ∷ points) read = (
    record { at_low = read _ (inl refl); at_high = read _ (inr (inl refl)) },
    corners_in_loop points (λ z there. read z (inr (inr there))),
  )

  corners_in_loops : (loops : List (List Point)) → AllRead (readings_of s a loops)
      → AllByRecursion (AllByRecursion IsCorner) loops
  corners_in_loops [] read = tt
  corners_in_loops (points ∷ loops) read = (
    corners_in_loop points
        (λ z there. read z (stands_before z (readings_in s a points) (readings_of s a loops) there)),
    corners_in_loops loops
        (λ z there. read z (stands_behind z (readings_in s a points) (readings_of s a loops) there)),
  )

  -- both ends of the edge are corners
  abbrev pub AreCorners : Edge → Type 0
  AreCorners e = IsCorner e.a × IsCorner e.b

  edges_back_have : (c : Point) (points : List Point) (first : Point) → IsCorner c
      → AllByRecursion IsCorner points → IsCorner first
      → AllByRecursion AreCorners (edges_back c points first)
  edges_back_have c [] first c_is all first_is = ((c_is, first_is), tt)
  edges_back_have c (b ∷ points) first c_is all first_is =
      ((c_is, all.0), edges_back_have b points first all.0 all.1 first_is)

  loop_has : (points : List Point) → AllByRecursion IsCorner points
      → AllByRecursion AreCorners (edges_of_loop points)
  loop_has [] all = tt
  loop_has (c ∷ points) all = edges_back_have c points c all.0 all.1 all.0

  loops_have : (loops : List (List Point)) → AllByRecursion (AllByRecursion IsCorner) loops
      → AllByRecursion AreCorners (edges_of loops)
  loops_have [] all = tt
  loops_have (points ∷ loops) all =
      all-append AreCorners (edges_of_loop points) (edges_of loops) (loop_has points all.0)
      (loops_have loops all.1)

  edges_have : AllByRecursion AreCorners (edges_of s.loops)
  edges_have =
      loops_have s.loops (corners_in_loops s.loops (reading_between (readings_of s a s.loops)))

  -- ---- an edge over the point

  module _ (p : Spot) (p_is : IsSpot p) (inside : is_in_plan s.loops p ≡ true) where
    -- along any way some edge of the plan reaches past the point
    some_edge : (d : Arrow) → IsWay d
        → (e : Edge) × (AreCorners e × (reaches_past d (abscissa_in d p) e ≡ true))
    some_edge d d_is =
        let along = sym (inside_by_below d p d_is p_is s.loops) ∙ inside in
        let odd =
        (and_parts (not (list_any (is_on p) (edges_of s.loops)))
        (is_odd_number (is_below_at d p) (edges_of s.loops)) along).1
        in
        from
        (one_of_any (is_below_at d p) (edges_of s.loops)
        (by (list_any (is_below_at d p) (edges_of s.loops)) refl odd))
      where
        by : (b : Bool) → list_any (is_below_at d p) (edges_of s.loops) ≡ b
            → is_odd_number (is_below_at d p) (edges_of s.loops) ≡ true
            → list_any (is_below_at d p) (edges_of s.loops) ≡ true
        by true some odd = some
        by false none odd =
            absurd
            (false≢true
            (sym (is_odd_number-none (is_below_at d p) (edges_of s.loops) none) ∙ odd))

        from : (e : Edge) × (Stands e (edges_of s.loops) × (is_below_at d p e ≡ true))
            → (e : Edge) × (AreCorners e × (reaches_past d (abscissa_in d p) e ≡ true))
        from (e, (there, below)) = (
          e,
          (
            all_stands AreCorners e (edges_of s.loops) edges_have there,
            (and_parts (reaches_past d (abscissa_in d p) e) _ below).0,
          ),
        )

    -- and one of its ends lies beyond it
    beyond : (d : Arrow) → IsWay d
        → (c : Point) × (IsCorner c × (dot d (arrow p.x p.y) <ℤ (abscissa_at c (flat d) *ℤ p.w)))
    beyond d d_is = from (some_edge d d_is)
      where
        less : (c : Point) → lies_after d (abscissa_in d p) c ≡ true
            → dot d (arrow p.x p.y) <ℤ (abscissa_at c (flat d) *ℤ p.w)
        less c after =
            let to = rational (abscissa_at c (flat d)) (pos 1) in
            let order = less_from (pos 0) (cross (abscissa_in d p) to) after in
            let spread = cross_eq (abscissa_in d p) to in
            let turn = mul_comm p.w (abscissa_at c (flat d)) in
            omega (arith, ints)

        by : (e : Edge) → AreCorners e → (x y : Bool) → lies_after d (abscissa_in d p) e.a ≡ x
            → lies_after d (abscissa_in d p) e.b ≡ y → differ x y ≡ true
            → (c : Point)
            × (IsCorner c × (dot d (arrow p.x p.y) <ℤ (abscissa_at c (flat d) *ℤ p.w)))
        by e corners true y first second past = (e.a, (corners.0, less e.a first))
        by e corners false true first second past = (e.b, (corners.1, less e.b second))
        by e corners false false first second past = absurd (false≢true past)

        from : (e : Edge) × (AreCorners e × (reaches_past d (abscissa_in d p) e ≡ true))
            → (c : Point)
            × (IsCorner c × (dot d (arrow p.x p.y) <ℤ (abscissa_at c (flat d) *ℤ p.w)))
        from (e, (corners, past)) =
            by e corners (lies_after d (abscissa_in d p) e.a) (lies_after d (abscissa_in d p) e.b) refl
            refl past

-- ---- the point

-- what a reading says of the greatest one
under_high : (u c pz az z0 z1 w high : ℤ) → pos 0 <ℤ w → (z0 *ℤ w) <ℤ pz → pz <ℤ (z1 *ℤ w)
    → u ≤ℤ (c *ℤ w) → (c +ℤ (z0 *ℤ az)) ≤ℤ high → (c +ℤ (z1 *ℤ az)) ≤ℤ high
    → (u <ℤ (c *ℤ w)) ⊎ (az ≡ pos 0 → ⊥) → (u +ℤ (pz *ℤ az)) <ℤ (high *ℤ w)
under_high u c pz az z0 z1 w high w_in after before reach low_corner high_corner some =
    by (sign_cases az)
  where
    spread : (z : ℤ) → (c +ℤ (z *ℤ az)) *ℤ w ≡ (c *ℤ w) +ℤ (az *ℤ (z *ℤ w))
    spread z =
        equal (times (plus (var c) (times (var z) (var az))) (var w))
        (plus (times (var c) (var w)) (times (var az) (times (var z) (var w)))) (omega arith)

    scaled : (z : ℤ) → (c +ℤ (z *ℤ az)) ≤ℤ high
        → ((c *ℤ w) +ℤ (az *ℤ (z *ℤ w))) ≤ℤ (high *ℤ w)
    scaled z corner =
        let weak = scale_at_most w (c +ℤ (z *ℤ az)) high (omega (arith, ints)) corner in
        let left = mul_comm w (c +ℤ (z *ℤ az)) in
        let right = mul_comm w high in
        let whole = spread z in
        omega (arith, ints)

    by : ((pos 0 <ℤ az) ⊎ (az ≡ pos 0)) ⊎ (az <ℤ pos 0) → (u +ℤ (pz *ℤ az)) <ℤ (high *ℤ w)
    by (inl (inl up)) =
        let bound = scaled z1 high_corner in
        let less = scale_less az pz (z1 *ℤ w) up before in
        let turn = mul_comm pz az in
        omega (arith, ints)
    by (inr down) =
        let bound = scaled z0 low_corner in
        let less = scale_less (neg_ℤ az) (z0 *ℤ w) pz (omega (arith, ints)) after in
        let turn = mul_comm pz az in
        let one = neg-mul az (z0 *ℤ w) in
        let other = neg-mul az pz in
        omega (arith, ints)
    by (inl (inr none)) = strict some
      where
        strict : (u <ℤ (c *ℤ w)) ⊎ (az ≡ pos 0 → ⊥) → (u +ℤ (pz *ℤ az)) <ℤ (high *ℤ w)
        strict (inr other) = absurd (other none)
        strict (inl less) =
            let bound = scaled z1 high_corner in
            let one = ap (λ k. k *ℤ (z1 *ℤ w)) none ∙ zero-mul (z1 *ℤ w) in
            let other = ap (λ k. pz *ℤ k) none ∙ mul-zero pz in
            omega (arith, ints)

-- and of the least
over_low : (u c pz az z0 z1 w low : ℤ) → pos 0 <ℤ w → (z0 *ℤ w) <ℤ pz → pz <ℤ (z1 *ℤ w)
    → (c *ℤ w) ≤ℤ u → low ≤ℤ (c +ℤ (z0 *ℤ az)) → low ≤ℤ (c +ℤ (z1 *ℤ az))
    → ((c *ℤ w) <ℤ u) ⊎ (az ≡ pos 0 → ⊥) → (low *ℤ w) <ℤ (u +ℤ (pz *ℤ az))
over_low u c pz az z0 z1 w low w_in after before reach low_corner high_corner some =
    let turned =
    under_high (neg_ℤ u) (neg_ℤ c) pz (neg_ℤ az) z0 z1 w (neg_ℤ low) w_in after before
    (let n = neg-mul c w in omega (arith, ints)) (let n = mul-neg z0 az in omega (arith, ints))
    (let n = mul-neg z1 az in omega (arith, ints)) (by some)
    in
    let one = mul-neg pz az in
    let other = neg-mul low w in
    omega (arith, ints)
  where
    by : ((c *ℤ w) <ℤ u) ⊎ (az ≡ pos 0 → ⊥)
        → (neg_ℤ u <ℤ (neg_ℤ c *ℤ w)) ⊎ (neg_ℤ az ≡ pos 0 → ⊥)
    by (inl less) = inl (let n = neg-mul c w in omega (arith, ints))
    by (inr other) = inr (λ none. other (omega (arith, ints)))

module _ (s : Upright) (a : Vector) (p : Spot) (p_is : IsSpot p) (inside : is_in_solid s p ≡ true)
    (some : pos 0 <ℤ inner a a) where
  parts : (is_in_plan s.loops p ≡ true) × (is_between_heights s.z0 s.z1 p ≡ true)
  parts = and_parts (is_in_plan s.loops p) (is_between_heights s.z0 s.z1 p) inside

  heights : ((s.z0 *ℤ p.w) <ℤ p.z) × (p.z <ℤ (s.z1 *ℤ p.w))
  heights =
      let both = and_parts (int_lt (s.z0 *ℤ p.w) p.z) (int_lt p.z (s.z1 *ℤ p.w)) parts.1 in
      (less_from (s.z0 *ℤ p.w) p.z both.0, less_from p.z (s.z1 *ℤ p.w) both.1)

  abbrev level : Arrow
  level = arrow a.x a.y

  -- the reading in plan
  abbrev across : ℤ
  across = (p.x *ℤ a.x) +ℤ (p.y *ℤ a.y)

  -- a corner above and one below, strictly but where the vector stands upright
  record HasCorners : Type 0 where
    above : Point
    above_is : IsCorner s a above
    above_reach : across ≤ℤ (abscissa_at above a *ℤ p.w)
    above_some : (across <ℤ (abscissa_at above a *ℤ p.w)) ⊎ (a.z ≡ pos 0 → ⊥)
    below : Point
    below_is : IsCorner s a below
    below_reach : (abscissa_at below a *ℤ p.w) ≤ℤ across
    below_some : ((abscissa_at below a *ℤ p.w) <ℤ across) ⊎ (a.z ≡ pos 0 → ⊥)

  has_corners : HasCorners
  has_corners = by (above_or_not (dot level level))
    where
      reads : dot level (arrow p.x p.y) ≡ across
      reads =
          dot_eq level (arrow p.x p.y) ∙ ap₂ (λ x y. x +ℤ y) (mul_comm a.x p.x) (mul_comm a.y p.y)

      reads_back : dot (opposite level) (arrow p.x p.y) ≡ neg_ℤ across
      reads_back = opposite-dot level (arrow p.x p.y) ∙ ap neg_ℤ reads

      turned : (c : Point) → abscissa_at c (flat (opposite level)) *ℤ p.w
          ≡ neg_ℤ (abscissa_at c a *ℤ p.w)
      turned c =
          equal
          (times (plus (times (var c.x) (negated (var a.x))) (times (var c.y) (negated (var a.y))))
          (var p.w))
          (negated (times (plus (times (var c.x) (var a.x)) (times (var c.y) (var a.y))) (var p.w)))
          (omega arith)

      with_way : (c : Point)
          × (IsCorner s a c × (dot level (arrow p.x p.y) <ℤ (abscissa_at c (flat level) *ℤ p.w)))
          → (b : Point)
          × (IsCorner s a b
          × (dot (opposite level) (arrow p.x p.y) <ℤ (abscissa_at b (flat (opposite level)) *ℤ p.w)))
          → HasCorners
      with_way (c, (c_is, more)) (b, (b_is, less)) =
          let more_is : across <ℤ (abscissa_at c a *ℤ p.w) = subst (λ t. t <ℤ (abscissa_at c a *ℤ p.w)) reads more in
          let less_is : (abscissa_at b a *ℤ p.w) <ℤ across =
          (let one = reads_back in let two = turned b in omega (arith, ints)) in
          record {
            above = c;
            above_is = c_is;
            above_reach = omega (arith, ints);
            above_some = inl more_is;
            below = b;
            below_is = b_is;
            below_reach = omega (arith, ints);
            below_some = inl less_is;
          }

      upright : a.x ≡ pos 0 → a.y ≡ pos 0
          → (e : Edge) × (AreCorners s a e
          × (reaches_past (arrow (pos 1) (pos 0)) (abscissa_in (arrow (pos 1) (pos 0)) p) e ≡ true))
          → HasCorners
      upright x_is y_is (e, (corners, past)) = record {
        above = e.a;
        above_is = corners.0;
        above_reach = omega (arith, ints, here, there);
        above_some = inr some_z;
        below = e.a;
        below_is = corners.0;
        below_reach = omega (arith, ints, here, there);
        below_some = inr some_z;
      }
        where
          here : (p.x *ℤ a.x) +ℤ (p.y *ℤ a.y) ≡ pos 0
          here =
              ap₂ (λ x y. (p.x *ℤ x) +ℤ (p.y *ℤ y)) x_is y_is
              ∙ ap₂ (λ x y. x +ℤ y) (mul-zero p.x) (mul-zero p.y)

          there : abscissa_at e.a a *ℤ p.w ≡ pos 0
          there =
              ap₂ (λ x y. ((e.a.x *ℤ x) +ℤ (e.a.y *ℤ y)) *ℤ p.w) x_is y_is
              ∙ ap₂ (λ x y. (x +ℤ y) *ℤ p.w) (mul-zero e.a.x) (mul-zero e.a.y) ∙ zero-mul p.w

          some_z : a.z ≡ pos 0 → ⊥
          some_z z_is =
              below_irrefl_z
              (subst (λ t. pos 0 <ℤ t)
              (ap₂ (λ x y. (x +ℤ y) +ℤ (a.z *ℤ a.z)) (ap (λ t. a.x *ℤ t) x_is ∙ mul-zero a.x)
              (ap (λ t. a.y *ℤ t) y_is ∙ mul-zero a.y)
              ∙ ap (λ t. (pos 0 +ℤ pos 0) +ℤ t) (ap (λ t. a.z *ℤ t) z_is ∙ mul-zero a.z)) some)
            where
              below_irrefl_z : pos 0 <ℤ ((pos 0 +ℤ pos 0) +ℤ pos 0) → ⊥
              below_irrefl_z less = omega (arith, ints)

      by : (pos 0 <ℤ dot level level) ⊎ (dot level level ≤ℤ pos 0) → HasCorners
      by (inl way) =
          with_way (beyond s a p p_is parts.0 level way)
          (beyond s a p p_is parts.0 (opposite level)
          (let n = opposite-dot level (opposite level) in let k = dot-opposite level level in
          omega (arith, ints)))
      by (inr flat_is) =
          let whole = dot_eq level level in
          let one = weak_square a.x in
          let other = weak_square a.y in
          upright (square_of_zero a.x (omega (arith, ints))) (square_of_zero a.y (omega (arith, ints)))
          (some_edge s a p p_is parts.0 (arrow (pos 1) (pos 0))
          (let n = dot_eq (arrow (pos 1) (pos 0)) (arrow (pos 1) (pos 0)) in omega (arith, ints)))

  -- a point inside a prism reads strictly within the prism's extent along any vector
  pub within_extent : IsBelow (low_end_of s a) (reading p a) × IsBelow (reading p a) (high_end_of s a)
  within_extent =
      let c = has_corners in
      let less =
      over_low across (abscissa_at c.below a) p.z a.z s.z0 s.z1 p.w (low_along s a) p_is heights.0
      heights.1 c.below_reach c.below_is.at_low.0 c.below_is.at_high.0 c.below_some
      in
      let more =
      under_high across (abscissa_at c.above a) p.z a.z s.z0 s.z1 p.w (high_along s a) p_is heights.0
      heights.1 c.above_reach c.above_is.at_low.1 c.above_is.at_high.1 c.above_some
      in
      let one = cross_eq (low_end_of s a) (reading p a) in
      let other = cross_eq (reading p a) (high_end_of s a) in
      let turn = mul_comm p.w (high_along s a) in
      (omega (arith, ints), omega (arith, ints))
