-- Trimmed on a sheet is trimmed of the model; and a level patch of plain points lies in its face.
use Rattle.std.proofs.Common.{◌≡◌, sym, ◌∙◌, ap, subst, inl, inr, arith, ℤ, pos, neg_ℤ}
use Rattle.std.proofs.Common.{◌+ℤ◌, ◌*ℤ◌, true, false}
use Rattle.std.proofs.lemmas.Int.{ints}
use Rattle.std.proofs.lemmas.Bool.Decides.{Decides-int_eq}
use Rattle.theory_numbers.proofs.Ring.{neg-mul}
use Rattle.sb_fraction.specs.Directions.{axis_z}
use Rattle.sb_model.specs.Solids.{Upright}
use Rattle.std.proofs.Common.{List, Some}
use Rattle.std.specs.List.{AllByRecursion}
use Rattle.std.specs.Ordering.{int_eq}
use Rattle.std.proofs.lemmas.Bool.{and_parts, and_from}
use Rattle.std.proofs.lemmas.Option.{same_Some}
use Rattle.theory_numbers.specs.Arrows.{Arrow}
use Rattle.theory_numbers.specs.Rationals.{IsRational, IsSame}
use Rattle.theory_plane.specs.Sides.{LineSide, IsLineSide}
use Rattle.theory_plane.specs.Points.{abscissa_of, is_on_side}
use Rattle.theory_plane.specs.Regions.{is_inside}
use Rattle.theory_patches.specs.Sheets.{IsOffCuts}
use Rattle.theory_plans.specs.Inside.{is_in_plan}
use Rattle.theory_parity.proofs.Regions.RegionIsFourHalves.{region_inside_throughout_off_sides}
use Rattle.sb_fraction.specs.Spots.{Spot, IsSpot, spot, opposite, times_w}
use Rattle.sb_model.specs.declared.faces.face.FaceKind.TheVariants as kind
use Rattle.sb_model.specs.declared.patches.patch.Patch.{Patch}
use Rattle.sb_model.specs.declared.products.Space.{Space}
use Rattle.sb_model.specs.PlanEdges.{is_abscissa}
use Rattle.sb_model.specs.Surfaces.Faces.{Surface, surface_of, is_in_plane, is_of_face, on_face}
use Rattle.sb_model.specs.Surfaces.PlainPoints.{is_off_cuts}
use Rattle.sb_model.specs.Surfaces.Patches.{region_of, is_in_patch}
use Rattle.sb_model.specs.Surfaces.FineCells.{way_x}
use Rattle.theory_models.proofs.AbscissaeListed.{no_abscissa_is_none, none_is_no_abscissa}
use Rattle.theory_models.proofs.EdgesOfProducts.{plan_of_solid}
use Rattle.theory_faces.specs.Laws.{HasOneTrimmed, HasLevelRegionInside}
use Rattle.theory_faces.proofs.Slabs.CellsRise.{way_x_is}
use Rattle.theory_faces.proofs.Points.PlainOffSides.{IsLevel, bottom_is_level, top_is_level, level_point}
use Rattle.theory_faces.proofs.Points.PlainOffSides.{frame_point, plan_point}
use Rattle.theory_faces.proofs.JoinedCells.{bottom_height, top_height}

-- ---- trimmed

-- trimmed of the model is apart and without a seam on the sheet of the direction's abscissae
pub has_one_trimmed : HasOneTrimmed
has_one_trimmed m d p q f found along = (
  λ trimmed. (
    λ u v u_in off common.
        trimmed.apart f found u v u_in
        (subst (λ e. is_abscissa m e u ≡ false) (sym along) (none_is_no_abscissa m d u off)) common,
    record { first_before = trimmed.first_before; second_before = trimmed.second_before },
  ),
  λ both.
      record {
        apart =
            λ g found_too u v u_in none common.
            let same : g ≡ f = same_Some g f (sym found_too ∙ found) in
            both.0 u v u_in
            (no_abscissa_is_none m d u
            (subst (λ e. is_abscissa m e u ≡ false)
            (ap (λ (h : Surface). h.across) same ∙ along) none))
            common;
        first_before = both.1.first_before;
        second_before = both.1.second_before;
      },
)

-- ---- a level patch

-- the point above or below q at the height z
abbrev at_height : ℤ → Spot → Spot
at_height z q = spot q.x q.y (z *ℤ q.w) q.w

reads_down : (x y z : ℤ)
    → ((x *ℤ neg_ℤ (pos 0)) +ℤ (y *ℤ neg_ℤ (pos 0))) +ℤ (z *ℤ neg_ℤ (pos 1)) ≡ neg_ℤ z
reads_down x y z = omega (arith, ints)

reads_up : (x y z : ℤ) → ((x *ℤ pos 0) +ℤ (y *ℤ pos 0)) +ℤ (z *ℤ pos 1) ≡ z
reads_up x y z = omega (arith, ints)

bottom_plane : (s : Upright) (f : Surface) → surface_of s kind.Bottom ≡ Some f → (q : Spot)
    → is_in_plane f (at_height s.z0 q) ≡ true
bottom_plane s f f_is q =
    subst (λ (g : Surface). is_in_plane g (at_height s.z0 q) ≡ true) (same_Some _ f f_is)
    ((Decides-int_eq (times_w (at_height s.z0 q) (opposite axis_z)) (neg_ℤ s.z0 *ℤ q.w)).1
    (reads_down q.x q.y (s.z0 *ℤ q.w) ∙ sym (neg-mul s.z0 q.w)))

top_plane : (s : Upright) (f : Surface) → surface_of s kind.Top ≡ Some f → (q : Spot)
    → is_in_plane f (at_height s.z1 q) ≡ true
top_plane s f f_is q =
    subst (λ (g : Surface). is_in_plane g (at_height s.z1 q) ≡ true) (same_Some _ f f_is)
    ((Decides-int_eq (times_w (at_height s.z1 q) axis_z) (s.z1 *ℤ q.w)).1
    (reads_up q.x q.y (s.z1 *ℤ q.w)))

-- where the points of a patch off some lines lie inside the loops, all of them do
level_region_inside : (s : Space) (f : Surface) (c : Patch) (abscissae : List Arrow)
    (cuts : List LineSide) → IsLevel f → AllByRecursion IsRational abscissae
    → AllByRecursion IsLineSide cuts
    → ((q : Spot) → IsSpot q → is_inside (region_of c) (plan_point q) ≡ true
    → IsOffCuts (record { abscissae = abscissae; cuts = cuts }) (plan_point q)
    → is_in_plan s.prism.loops q ≡ true)
    → (p : Spot) → IsSpot p → is_in_patch f c p ≡ true → is_in_plan s.prism.loops p ≡ true
level_region_inside s f c abscissae cuts level abscissae_in cuts_in plain p p_is at =
    region_inside_throughout_off_sides s.prism.loops (plan_of_solid s.prism s.is_solid) way_x
    (region_of c) abscissae cuts way_x_is abscissae_in cuts_in
    (λ q q_is at_q off.
    plain q q_is (subst (λ x. is_inside (region_of c) x ≡ true) (frame_point q) at_q)
    (record {
      no_abscissa =
          subst (λ x. AllByRecursion (λ a. IsSame a (abscissa_of x) → ⊥) abscissae) (frame_point q)
          off.no_abscissa;
      no_cut =
          subst (λ x. AllByRecursion (λ l. is_on_side l x ≡ false) cuts) (frame_point q) off.no_cut;
    }))
    p p_is
    (subst (λ x. is_inside (region_of c) x ≡ true)
    (level_point f p level.across level.up ∙ sym (frame_point p)) at)

-- a level patch of plain points lies in its face
pub has_level_region_inside : HasLevelRegionInside
has_level_region_inside m s kind.Bottom f c abscissae cuts flat f_is abscissae_in cuts_in plain p p_is
    plane at =
    let level = bottom_is_level s.prism f f_is in
    and_from (is_in_plan s.prism.loops p) (int_eq p.z (s.prism.z0 *ℤ p.w))
    (level_region_inside s f c abscissae cuts level abscissae_in cuts_in
    (λ q q_is at_q off.
    let r = at_height s.prism.z0 q in
    let point : on_face f r ≡ plan_point q = level_point f r level.across level.up in
    (and_parts (is_in_plan s.prism.loops r) (int_eq r.z (s.prism.z0 *ℤ r.w))
    (and_parts (is_of_face s.prism kind.Bottom r) (is_off_cuts m s.prism kind.Bottom r)
    (plain r q_is (bottom_plane s.prism f f_is q)
    (subst (λ x. is_inside (region_of c) x ≡ true) (sym point) at_q)
    (subst (λ x. IsOffCuts (record { abscissae = abscissae; cuts = cuts }) x) (sym point) off))).0).0)
    p p_is at)
    (bottom_height s.prism f f_is p plane)
has_level_region_inside m s kind.Top f c abscissae cuts flat f_is abscissae_in cuts_in plain p p_is
    plane at =
    let level = top_is_level s.prism f f_is in
    and_from (is_in_plan s.prism.loops p) (int_eq p.z (s.prism.z1 *ℤ p.w))
    (level_region_inside s f c abscissae cuts level abscissae_in cuts_in
    (λ q q_is at_q off.
    let r = at_height s.prism.z1 q in
    let point : on_face f r ≡ plan_point q = level_point f r level.across level.up in
    (and_parts (is_in_plan s.prism.loops r) (int_eq r.z (s.prism.z1 *ℤ r.w))
    (and_parts (is_of_face s.prism kind.Top r) (is_off_cuts m s.prism kind.Top r)
    (plain r q_is (top_plane s.prism f f_is q)
    (subst (λ x. is_inside (region_of c) x ≡ true) (sym point) at_q)
    (subst (λ x. IsOffCuts (record { abscissae = abscissae; cuts = cuts }) x) (sym point) off))).0).0)
    p p_is at)
    (top_height s.prism f f_is p plane)
has_level_region_inside m s (kind.Side j) f c abscissae cuts (inl same) f_is abscissae_in cuts_in plain
    p p_is plane at =
    absurd cc
has_level_region_inside m s (kind.Side j) f c abscissae cuts (inr same) f_is abscissae_in cuts_in plain
    p p_is plane at =
    absurd cc
