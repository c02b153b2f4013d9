-- A ray that sees products by their presence, and the borders at which this may change: it has passages,
-- and its walk is what is read from the stretches between these borders.
use Rattle.std.proofs.Common.{◌≡◌, refl, sym, ap, ap₂, arith, subst, subst₂, ◌↔◌, ℤ, pos, ◌*ℤ◌}
use Rattle.std.proofs.Common.{◌<ℤ◌, Bool, true, false, cond, IsTrue, List, [], ◌∷◌, map, Some, None}
use Rattle.std.specs.List.{AllByRecursion}
use Rattle.std.proofs.lemmas.Int.{ints}
use Rattle.theory_numbers.specs.Arrows.{Arrow, cross, scale}
use Rattle.theory_numbers.specs.Rationals.{IsRational, IsBelow}
use Rattle.theory_numbers.proofs.Vectors.Arrows.{cross-scale, scale-cross}
use Rattle.theory_numbers.proofs.Products.{positive_product, positive_factor}
use Rattle.theory_cuttings.specs.Cuttings.{Break, IsCutting, IsReducedCutting, HasNoOddPoint}
use Rattle.theory_cuttings.specs.Changes.{break_at, squash, moved_by}
use Rattle.theory_cuttings.specs.Columns.{Rise, HasLabelOfPresent, present_after, column_of}
use Rattle.theory_cuttings.specs.Passages.{ray_start}
use Rattle.theory_cuttings.proofs.Columns.{AreBehindOrAhead, column_after, column_after_has_no_odd_point}
use Rattle.theory_cuttings.proofs.NeedlessBreaks.{is_reduced_by_squash}
use Rattle.sb_fraction.specs.Spots.{IsSpot, inner}
use Rattle.sb_model.specs.declared.labels.label.Label.{Label}
use Rattle.sb_model.specs.declared.walk.Walk.{Walk}
use Rattle.sb_model.specs.Building.{Building, is_building}
use Rattle.sb_model.specs.Passages.{Ray, at_depth, ArePassages}
use Rattle.sb_model.specs.Walks.{course_of, IsWalkOf}
use Rattle.theory_models.proofs.RaysAlike.{along_is_spot, label_along_is_alike}
use Rattle.theory_sight.specs.Coarse.{coarse, same_label, IsOpen, Standing, label_of_present}
use Rattle.theory_sight.specs.Reading.{stretch, read, IsFarEnd, AreStretches}
use Rattle.theory_sight.specs.Reading.{Stretch}
use Rattle.theory_sight.proofs.Crossings.BandsOfPrisms.{low_end_of, high_end_of}
use Rattle.theory_sight.proofs.Crossings.CrossingItems.{IsSeen}
use Rattle.theory_sight.proofs.Crossings.LayeredItems.{reading_at_depth}
use Rattle.theory_sight.proofs.PassagesFromColumn.{LiesInExtents, passages_from_column}
use Rattle.theory_sight.proofs.Crossings.PiecesAreRuns.{same_label_decides}
use Rattle.theory_sight.proofs.Stacked.{label_sees_between}
use Rattle.theory_sight.proofs.WalkIsRead.{walk_is_read}
use Rattle.theory_gaps.specs.Borders.{Border, stretches_of}
use Rattle.theory_gaps.proofs.WithinExtents.{within_extent}
use Rattle.theory_sight.specs.Crossings.{StartsAt, label_along}

-- ---- points of a ray within extents

-- the points of a ray in elements lie within the elements' extents
pub rays_lie_in_extents : (m : Building) (r : Ray) → IsTrue (is_building m) → IsSpot r.start
    → pos 0 <ℤ inner r.normal r.normal → LiesInExtents m r
rays_lie_in_extents m r is start some = record {
  model = is;
  start = start;
  some = some;
  within =
      λ e stands a a_some u u_in inside.
      within_extent e.prism a (at_depth r u) (along_is_spot r.start r.normal u start some u_in) inside
      a_some;
}

-- a number below another but for a factor
below_scaled : (k : ℤ) (s t : Arrow) → pos 0 <ℤ k → IsBelow s (scale k t) → IsBelow s t
below_scaled k s t k_in low = positive_factor k (cross s t) k_in (rw (cross-scale k s t) at low)

scaled_below : (k : ℤ) (s t : Arrow) → pos 0 <ℤ k → IsBelow (scale k s) t → IsBelow s t
scaled_below k s t k_in low = positive_factor k (cross s t) k_in (rw (scale-cross k s t) at low)

-- a ray from a whole position is seen
pub rays_are_seen : (m : Building) (r : Ray) (x0 : ℤ) → LiesInExtents m r → StartsAt r x0
    → IsSeen m r x0
rays_are_seen m r x0 lies starts = record {
  model = lies.model;
  start = lies.start;
  some = lies.some;
  starts = starts;
  within =
      λ e stands u u_in inside.
      let k = r.start.w *ℤ inner r.normal r.normal in
      let k_in = positive_product r.start.w (inner r.normal r.normal) lies.start lies.some in
      let both = lies.within e stands r.normal lies.some u u_in inside in
      let there = reading_at_depth r x0 starts u in (
        below_scaled k (low_end_of e.prism r.normal) (moved_by x0 u) k_in
            (subst (IsBelow (low_end_of e.prism r.normal)) there both.0),
        scaled_below k (moved_by x0 u) (high_end_of e.prism r.normal) k_in
            (subst (λ t. IsBelow t (high_end_of e.prism r.normal)) there both.1),
      );
}

-- ---- borders

-- a border at its depth
pub record Placed : Type 0 where
  pub start : Arrow
  pub border : Border

-- the depths of these borders
abbrev pub depths_of : List Placed → List Arrow
depths_of steps = map (λ s. s.start) steps

abbrev pub borders_of : List Placed → List Border
borders_of steps = map (λ s. s.border) steps

abbrev breaks_of : List Placed → List (Break Label)
breaks_of steps = map (λ s. break_at s.start s.border.label) steps

module _ (m : Building) (r : Ray) (x0 : ℤ) where
  -- the stretches between borders that end as they say
  are_stretches : (at : Arrow) (l : Label) (steps : List Placed)
      → AllByRecursion (λ s. IsFarEnd m r x0 s.start s.border.far) steps
      → AreStretches m r x0 (break_at at l ∷ squash same_label l (breaks_of steps))
      (stretches_of l (borders_of steps))
  are_stretches at l [] ends = (refl, refl)
  are_stretches at l (s ∷ ss) ends =
      by (same_label l s.border.label) (are_stretches at l ss ends.1)
      (are_stretches s.start s.border.label ss ends.1)
    where
      by : (b : Bool)
          → AreStretches m r x0 (break_at at l ∷ squash same_label l (breaks_of ss))
          (stretches_of l (borders_of ss))
          → AreStretches m r x0
          (break_at s.start s.border.label ∷ squash same_label s.border.label (breaks_of ss))
          (stretches_of s.border.label (borders_of ss))
          → AreStretches m r x0
          (break_at at l
          ∷ cond b (squash same_label l (breaks_of ss))
          (break_at s.start s.border.label ∷ squash same_label s.border.label (breaks_of ss)))
          (cond b (stretches_of l (borders_of ss))
          (stretch l s.border.far ∷ stretches_of s.border.label (borders_of ss)))
      by true on off = on
      by false on off = (refl, ends.0, off)

-- ---- the walk

-- the labels of a ray from its start on, without layers, and the stretches that they make
pub record HasColumn (m : Building) (r : Ray) (x0 : ℤ) (stretches : List Stretch) : Type 0 where
  pub seen : IsSeen m r x0
  pub first : Label
  pub breaks : List (Break Label)
  pub column :
      IsReducedCutting (λ u. coarse (label_along m r u)) (Some ray_start) None first breaks
  pub are : AreStretches m r x0 (break_at ray_start first ∷ breaks) stretches

-- what is known of the products on a ray
pub record SeesProducts (m : Building) (r : Ray) (x0 : ℤ) (bare : Bool → Label)
    (values : Standing → List Arrow) : Type 0 where
  pub lies : LiesInExtents m r
  pub starts : StartsAt r x0
  pub bare_is : (b : Bool) → IsOpen (bare b)
  pub has :
      HasLabelOfPresent (λ u. coarse (label_along m r u)) (label_of_present m bare) values

module _ (m : Building) (r : Ray) (x0 : ℤ) (bare : Bool → Label) (values : Standing → List Arrow)
    (sees : SeesProducts m r x0 bare values) where
  -- the label just after a number
  abbrev pub label_past : Arrow → Label
  label_past t = label_of_present m bare (present_after values t)

  -- the borders from depth 0 on
  pub record AreBorders (l : Label) (steps : List Placed) : Type 0 where
    pub rise : Rise (Some ray_start) (depths_of steps)
    pub placed : AreBehindOrAhead (λ u. coarse (label_along m r u)) (label_of_present m bare) values
        sees.has ray_start (depths_of steps)
    pub first : l ≡ label_of_present m bare (present_after values ray_start)
    pub labels : AllByRecursion
        (λ s. s.border.label ≡ label_of_present m bare (present_after values s.start)) steps
    pub ends : AllByRecursion (λ s. IsFarEnd m r x0 s.start s.border.far) steps

  module _ (l : Label) (steps : List Placed) (are : AreBorders l steps) where
    abbrev f : Arrow → Label
    f u = coarse (label_along m r u)

    breaks_are : (ss : List Placed)
        → AllByRecursion
        (λ s. s.border.label ≡ label_of_present m bare (present_after values s.start)) ss
        → column_of (label_of_present m bare) values (depths_of ss) ≡ breaks_of ss
    breaks_are [] labels = refl
    breaks_are (s ∷ ss) labels =
        ap₂ (λ k ks. break_at s.start k ∷ ks) (sym labels.0) (breaks_are ss labels.1)

    start_in : IsRational ray_start
    start_in = omega (arith, ints)

    -- the labels from depth 0 on
    column : IsReducedCutting (λ u. coarse (label_along m r u)) (Some ray_start) None l
        (squash same_label l (breaks_of steps))
    column =
        is_reduced_by_squash Label f
        (λ s t s_in t_in same.
        ap coarse (label_along_is_alike m r sees.lies.start sees.lies.some s t s_in t_in same))
        same_label same_label_decides (Some ray_start) None start_in tt l (breaks_of steps)
        (subst₂ (λ k ks. IsCutting f (Some ray_start) None k ks) (sym are.first)
        (breaks_are steps are.labels)
        (column_after f (label_of_present m bare) values sees.has ray_start start_in (depths_of steps)
        are.rise are.placed))
        (subst₂ (λ k ks. HasNoOddPoint f k ks) (sym are.first) (breaks_are steps are.labels)
        (column_after_has_no_odd_point f (label_of_present m bare) values sees.has
        (label_sees_between m sees.lies.model bare sees.bare_is) ray_start start_in (depths_of steps)
        are.rise are.placed))

    -- and the stretches that they make
    pub column_there : HasColumn m r x0 (stretches_of l (borders_of steps))
    column_there = record {
      seen = rays_are_seen m r x0 sees.lies sees.starts;
      first = l;
      breaks = squash same_label l (breaks_of steps);
      column = column;
      are = are_stretches m r x0 ray_start l steps are.ends;
    }

    -- the ray has passages
    pub passages_there : (breaks : List (Break Label)) × ArePassages m r breaks
    passages_there =
        passages_from_column m r sees.lies l (squash same_label l (breaks_of steps)) column

    -- and its walk is what is read from the stretches
    pub walk_is_read_over : (w : Walk)
        → IsWalkOf m r w
        ↔ (course_of w ≡ read m r.normal x0 x0 (stretches_of l (borders_of steps)))
    walk_is_read_over w =
        let seen = rays_are_seen m r x0 sees.lies sees.starts in
        by passages_there
      where
        by : (breaks : List (Break Label)) × ArePassages m r breaks
            → IsWalkOf m r w
            ↔ (course_of w ≡ read m r.normal x0 x0 (stretches_of l (borders_of steps)))
        by (breaks, passages) =
            walk_is_read m r x0 (rays_are_seen m r x0 sees.lies sees.starts) breaks passages l
            (squash same_label l (breaks_of steps)) column (stretches_of l (borders_of steps))
            (are_stretches m r x0 ray_start l steps are.ends) w
