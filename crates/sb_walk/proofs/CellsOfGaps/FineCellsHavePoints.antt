-- Each fine cell of Bottom and Top has a plain point: amid its ends, and amid its two lines there.

use Rattle.std.proofs.Common.{◌≡◌, refl, sym, ap, ◌∙◌, subst, inl, inr, ℤ, pos, ◌<ℤ◌, ◌*ℤ◌}
use Rattle.std.proofs.Common.{Bool, true, false, ◌&&◌, List, [], ◌∷◌, Some, if◌then◌else◌}
use Rattle.std.specs.List.{AllByRecursion}
use Rattle.std.specs.Ordering.{int_eq}
use Rattle.std.proofs.lemmas.Bool.{and_parts, and_from, false≢true}
use Rattle.std.proofs.lemmas.Bool.Decides.{Decides-int_eq}
use Rattle.std.proofs.lemmas.Option.{same_Some}
use Rattle.theory_lists.specs.Members.{Stands}
use Rattle.theory_numbers.specs.Arrows.{Arrow, cross}
use Rattle.theory_numbers.specs.Rationals.{IsRational, IsBelow, is_below, mediant}
use Rattle.theory_numbers.proofs.Products.{positive_product}
use Rattle.theory_numbers.proofs.Fractions.Rationals.{mediant-IsRational, mediant_between}
use Rattle.theory_numbers.proofs.Signs.{less_from}
use Rattle.theory_plane.specs.Points.{FacePoint, point_at, abscissa_of}
use Rattle.theory_plane.specs.Points.{is_on_side, is_above_side, is_under_side}
use Rattle.theory_plane.specs.Regions.{Region, IsRegion, is_inside, is_spanned}
use Rattle.theory_plane.specs.Sides.{clearance_at, value_on}
use Rattle.theory_plane.proofs.Clearance.{value_on-IsRational, cross-value_on}
use Rattle.theory_plane.proofs.Points.{inner_passes}
use Rattle.theory_plane.proofs.Regions.{open_between}
use Rattle.sb_fraction.specs.Directions.{axis_x}
use Rattle.sb_fraction.specs.Lines.{line_over}
use Rattle.sb_fraction.specs.Spots.{Spot, IsSpot, spot}
use Rattle.theory_plans.specs.Inside.{is_in_plan}
use Rattle.sb_model.specs.declared.faces.face.FaceKind.{FaceKind}
use Rattle.sb_model.specs.declared.faces.face.FaceKind.TheVariants as kind
use Rattle.sb_model.specs.declared.products.Space.{Space}
use Rattle.sb_model.specs.Building.{Building}
use Rattle.sb_model.specs.Surfaces.Faces.{Surface, surface_of, is_of_face, on_face}
use Rattle.sb_model.specs.Surfaces.FineCells.{AreNeighbours, IsLevelPiece, IsPieceOf, IsFineCellOf}
use Rattle.sb_model.specs.Surfaces.FineCells.{way_x, is_across_slab}
use Rattle.sb_model.specs.Surfaces.Patches.{region_of}
use Rattle.sb_model.specs.Surfaces.PlainPoints.{is_plain}
use Rattle.sb_model.specs.PlanEdges.{PlanEdge, plan_edges}
use Rattle.theory_models.proofs.AbscissaeListed.{no_abscissa_is_none}
use Rattle.theory_faces.specs.Sheets.{lines_across}
use Rattle.theory_faces.proofs.PatchesAreRegions.{patch_is}
use Rattle.theory_faces.proofs.Points.PlainOffCuts.{has_plain_off_cuts}
use Rattle.theory_faces.proofs.Points.PlainOffSides.{IsLevel, bottom_is_level, top_is_level}
use Rattle.theory_faces.proofs.Points.PlainOffSides.{level_point}
use Rattle.sb_walk.specs.PointsOfCells.{is_level, HasPlainPoints}

-- ---- amid a region

module _ (r : Region) (is : IsRegion r) where
  -- between its ends
  abbrev amid : Arrow
  amid = mediant r.low r.high

  -- between its sides there
  abbrev middle : Arrow
  middle = mediant (value_on r.lower (mediant r.low r.high)) (value_on r.upper (mediant r.low r.high))

  amid_in : IsRational (mediant r.low r.high)
  amid_in = mediant-IsRational r.low r.high is.low_in is.high_in

  between : IsBelow r.low (mediant r.low r.high) × IsBelow (mediant r.low r.high) r.high
  between = mediant_between r.low r.high is.wide

  sides_apart :
      IsBelow (value_on r.lower (mediant r.low r.high)) (value_on r.upper (mediant r.low r.high))
  sides_apart =
      subst (λ n. pos 0 <ℤ n) (sym (cross-value_on r.lower r.upper (mediant r.low r.high)))
      (positive_product (mediant r.low r.high).x
      (clearance_at r.lower r.upper (mediant r.low r.high)) amid_in
      (open_between r is (mediant r.low r.high) amid_in between.0 between.1))

  middle_in : IsRational middle
  middle_in =
      mediant-IsRational (value_on r.lower (mediant r.low r.high))
      (value_on r.upper (mediant r.low r.high))
      (value_on-IsRational r.lower (mediant r.low r.high) is.lower_in amid_in)
      (value_on-IsRational r.upper (mediant r.low r.high) is.upper_in amid_in)

  -- the point there
  abbrev center : FacePoint
  center = point_at amid middle

  center_in : pos 0 <ℤ (point_at amid middle).w
  center_in = positive_product amid.x middle.x amid_in middle_in

  center_inside : is_inside r (point_at amid middle) ≡ true
  center_inside =
      let sides = mediant_between (value_on r.lower (mediant r.low r.high))
      (value_on r.upper (mediant r.low r.high)) sides_apart in
      inner_passes r amid middle middle_in
      (record { after = between.0; before = between.1; above = sides.0; under = sides.1 })

-- ---- off the lines of a slab

module _ (low high : Arrow) (point : FacePoint) where
  off_lines : (es : List PlanEdge)
      → ((e : PlanEdge) → Stands e es → is_across_slab axis_x low high e.edge ≡ true
      → is_on_side (line_over way_x e.edge) point ≡ false)
      → AllByRecursion (λ l. is_on_side l point ≡ false) (lines_across low high es)
  off_lines [] each = tt
  off_lines (e ∷ es) each =
      from (is_across_slab axis_x low high e.edge) (each e (inl refl))
      (off_lines es (λ g at. each g (inr at)))
    where
      from : (b : Bool) → (b ≡ true → is_on_side (line_over way_x e.edge) point ≡ false)
          → AllByRecursion (λ l. is_on_side l point ≡ false) (lines_across low high es)
          → AllByRecursion (λ l. is_on_side l point ≡ false)
          (if b then line_over way_x e.edge ∷ lines_across low high es
          else lines_across low high es)
      from true off rest = (off refl, rest)
      from false off rest = rest

-- ---- on a level face

-- a point of the face in the region
record IsPointIn (m : Building) (s : Space) (k : FaceKind) (f : Surface) (r : Region) (point : Spot)
    : Type 0 where
  positive : IsSpot point
  plain : is_plain m s.prism k point ≡ true
  inside : is_inside r (on_face f point) ≡ true

module _ (m : Building) (s : Space) (f : Surface) (level : IsLevel f) (r : Region) (is : IsRegion r)
    (near : AreNeighbours m f.across r.low r.high) (piece : IsLevelPiece m s.prism.loops r) (z : ℤ)
  where
    -- amid the region, at this height
    abbrev at : Spot
    at =
        let q = point_at (amid r is) (middle r is) in
        spot q.u q.v (z *ℤ q.w) q.w

    at_is : on_face f at ≡ point_at (amid r is) (middle r is)
    at_is = level_point f at level.across level.up

    inside : is_inside r (on_face f at) ≡ true
    inside = subst (λ (x : FacePoint). is_inside r x ≡ true) (sym at_is) (center_inside r is)

    ends : IsBelow r.low (abscissa_of (on_face f at)) × IsBelow (abscissa_of (on_face f at)) r.high
    ends =
        let parts =
        and_parts (is_spanned r (abscissa_of (on_face f at)))
        (is_above_side r.lower (on_face f at) && is_under_side r.upper (on_face f at)) inside
        in
        let both =
        and_parts (is_below r.low (abscissa_of (on_face f at)))
        (is_below (abscissa_of (on_face f at)) r.high) parts.0
        in (
          less_from (pos 0) (cross r.low (abscissa_of (on_face f at))) both.0,
          less_from (pos 0) (cross (abscissa_of (on_face f at)) r.high) both.1,
        )

    in_plan : is_in_plan s.prism.loops at ≡ true
    in_plan = piece.inside at (center_in r is) (center_inside r is)

    at_height : int_eq at.z (z *ℤ at.w) ≡ true
    at_height = (Decides-int_eq at.z (z *ℤ at.w)).1 refl

    plain_there : (k : FaceKind) → surface_of s.prism k ≡ Some f → is_of_face s.prism k at ≡ true
        → AllByRecursion (λ l. is_on_side l (on_face f at) ≡ false)
        (lines_across r.low r.high (plan_edges m))
        → is_level k ≡ true → is_plain m s.prism k at ≡ true
    plain_there kind.Bottom f_is of_face off is_one =
        (has_plain_off_cuts m s.prism kind.Bottom f r.low r.high at f_is is.low_in is.high_in is.wide near
        (center_in r is) (record { after = ends.0; before = ends.1 }) of_face).1
        (record {
          no_abscissa =
              no_abscissa_is_none m f.across (abscissa_of (on_face f at))
              (near.none (abscissa_of (on_face f at)) (center_in r is) ends.0 ends.1);
          no_cut = off;
        })
    plain_there kind.Top f_is of_face off is_one =
        (has_plain_off_cuts m s.prism kind.Top f r.low r.high at f_is is.low_in is.high_in is.wide near
        (center_in r is) (record { after = ends.0; before = ends.1 }) of_face).1
        (record {
          no_abscissa =
              no_abscissa_is_none m f.across (abscissa_of (on_face f at))
              (near.none (abscissa_of (on_face f at)) (center_in r is) ends.0 ends.1);
          no_cut = off;
        })
    plain_there (kind.Side k) f_is of_face off is_one = absurd (false≢true is_one)

    off_all : AllByRecursion (λ l. is_on_side l (on_face f at) ≡ false)
        (lines_across r.low r.high (plan_edges m))
    off_all =
        off_lines r.low r.high (on_face f at) (plan_edges m)
        (λ e e_in spans. piece.undivided e e_in spans (on_face f at) (center_in r is) inside)

point_in : (m : Building) (s : Space) (k : FaceKind) (f : Surface) (r : Region) → IsRegion r
    → is_level k ≡ true → surface_of s.prism k ≡ Some f → AreNeighbours m f.across r.low r.high
    → IsPieceOf m s.prism k r → (point : Spot) × IsPointIn m s k f r point
point_in m s kind.Bottom f r is level f_is near piece =
    let flat = bottom_is_level s.prism f f_is in (
      at m s f flat r is near piece s.prism.z0,
      record {
        positive = center_in r is;
        plain =
            plain_there m s f flat r is near piece s.prism.z0 kind.Bottom f_is
            (and_from
            (is_in_plan s.prism.loops (at m s f flat r is near piece s.prism.z0)) _
            (in_plan m s f flat r is near piece s.prism.z0)
            (at_height m s f flat r is near piece s.prism.z0))
            (off_all m s f flat r is near piece s.prism.z0) level;
        inside = inside m s f flat r is near piece s.prism.z0;
      },
    )
point_in m s kind.Top f r is level f_is near piece =
    let flat = top_is_level s.prism f f_is in (
      at m s f flat r is near piece s.prism.z1,
      record {
        positive = center_in r is;
        plain =
            plain_there m s f flat r is near piece s.prism.z1 kind.Top f_is
            (and_from
            (is_in_plan s.prism.loops (at m s f flat r is near piece s.prism.z1)) _
            (in_plan m s f flat r is near piece s.prism.z1)
            (at_height m s f flat r is near piece s.prism.z1))
            (off_all m s f flat r is near piece s.prism.z1) level;
        inside = inside m s f flat r is near piece s.prism.z1;
      },
    )
point_in m s (kind.Side k) f r is level f_is near piece = absurd (false≢true level)

-- ---- of the model

pub has_plain_points : HasPlainPoints
has_plain_points m d p (t, (t_found, cell)) level s found f f_is = (
  there.0,
  record { positive = there.1.positive; plain = there.1.plain; inside = there.1.inside },
)
  where
    same_space : t ≡ s
    same_space = same_Some t s (sym t_found ∙ found)

    own : IsFineCellOf m d s p
    own = subst (λ (x : Space). IsFineCellOf m d x p) same_space cell

    along : d ≡ f.across
    along =
        sym own.along
        ∙ ap (λ (g : Surface). g.across) (same_Some own.surface f (sym own.is_surface ∙ f_is))

    there : (point : Spot) × IsPointIn m s p.face.kind f (region_of p) point
    there =
        point_in m s p.face.kind f (region_of p) (patch_is p).region level f_is
        (subst (λ x. AreNeighbours m x (region_of p).low (region_of p).high) along own.neighbours)
        own.piece
