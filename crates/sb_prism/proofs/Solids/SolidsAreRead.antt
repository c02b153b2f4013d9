-- What is kept of a solid, from what is kept of its parts.
use Rattle.std.proofs.Common.{◌≡◌, ℕ, ℤ, false, ◌||◌, not, ◌++◌, Some, sym, ap, ◌∙◌, subst}
use Rattle.sb_fraction.specs.declared.unit.Unit as units
use Rattle.sb_place.specs.declared.sight.Seen.TheVariants as seen
use Rattle.sb_place.specs.declared.position.Local.{Local}
use Rattle.sb_model.specs.declared.frame.Frame.{Frame}
use Rattle.sb_place.specs.Positions.{is_length}
use Rattle.sb_place.specs.Sight.{absent_at, broken_at}
use Rattle.sb_prism.specs.declared.sections.contour.Contour.{Contour}
use Rattle.sb_prism.specs.declared.faults.Faults.{Faults}
use Rattle.sb_prism.specs.declared.items.heading.Heading.{Heading}
use Rattle.sb_prism.specs.declared.measure.Measure.{Measure}
use Rattle.sb_prism.specs.declared.kept.Extrusion.{Extrusion}
use Rattle.sb_step.specs.Indexed.{Indexed}
use Rattle.sb_schema.specs.Rows as rows
use Rattle.sb_schema.specs.Views.{Gives}
use Rattle.sb_schema.specs.declared.entities.shapes.ExtrudedAreaSolid.{ExtrudedAreaSolid}
use Rattle.sb_prism.specs.Shapes.{Solid, ShowsSolid}
use Rattle.sb_prism.specs.Faults.{in_position, in_profile, is_no_profile, is_no_extrusion, is_turned_where, is_turned_profile, is_stray_where, is_above}
use Rattle.sb_prism.specs.Faults.Fault.{not_of_row, not_there}
use Rattle.sb_prism.specs.Outlines.{is_upward}
use Rattle.sb_prism.specs.Prisms.{is_far_where, is_far_profile}
use Rattle.sb_prism.specs.Kept.{faults_of, faults_of_local, joined, measure_of, measure_faults, local_where, heading_of, profile_faults, way_where, IsContourOf, IsExtrusionOf, IsOfView}
use Rattle.sb_prism.proofs.FaultsAreJoined.{joined_faults, joined_plain, joined_lengths}
use Rattle.sb_prism.proofs.Outlines.ContoursAreRead.{neither, local_faults, local_frame, measured_faults, length_kept}

pub solid_is : (u : units.Unit) (s : Solid) (contour : Contour) → IsContourOf u s.profile contour
    → IsExtrusionOf u (seen.Shown s)
    (record {
      faults =
          joined contour.faults
          (joined (faults_of_local (local_where u s.position))
          (joined (heading_of s.direction).faults (measure_faults (measure_of u s.depth))));
      loops = contour.loops;
      frame = (local_where u s.position).frame;
      way = way_where (heading_of s.direction).upward (measure_of u s.depth).length;
    })
solid_is u s contour is = record {
  faults =
      ap (λ f. joined f (joined (faults_of_local (local_where u s.position)) (joined heading (measure_faults (measure_of u s.depth))))) is.faults
      ∙ (ap (λ f. joined profile (joined f (joined heading (measure_faults (measure_of u s.depth))))) (local_faults u s.position)
      ∙ (ap (λ f. joined profile (joined position (joined heading f))) (measured_faults u s.depth)
      ∙ (ap (λ f. joined profile (joined position f))
      (joined_lengths (broken_at s.direction) (absent_at s.direction) false (is_no_extrusion s.direction)
      (not (is_above u s.depth)) false (not (is_length u s.depth)))
      ∙ (ap (λ f. joined profile f)
      (joined_plain (in_position not_of_row s.position) (broken_at s.direction) (in_position not_there s.position)
      (absent_at s.direction) (is_turned_where s.position) (is_stray_where s.position)
      (is_no_extrusion s.direction || not (is_above u s.depth)) (is_far_where u s.position) (not (is_length u s.depth)))
      ∙ joined_faults (in_profile not_of_row s.profile) (in_position not_of_row s.position ++ broken_at s.direction)
      (in_profile not_there s.profile) (in_position not_there s.position ++ absent_at s.direction)
      (is_turned_profile s.profile) (is_turned_where s.position) (is_no_profile u s.profile)
      (is_stray_where s.position || (is_no_extrusion s.direction || not (is_above u s.depth)))
      (is_far_profile u s.profile) (is_far_where u s.position || not (is_length u s.depth))))));
  kept = record {
    frame = local_frame u s.position;
    loops = λ near. is.loops (neither (is_far_profile u s.profile) (is_far_where u s.position || not (is_length u s.depth)) near).0;
    way = λ near.
        let parts = neither (is_far_profile u s.profile) (is_far_where u s.position || not (is_length u s.depth)) near in
        let depth = neither (is_far_where u s.position) (not (is_length u s.depth)) parts.1 in
        ap (way_where (is_upward s.direction)) (length_kept u s.depth depth.1);
  };
}
  where
    profile : Faults
    profile = profile_faults u s.profile

    position : Faults
    position =
        faults_of (in_position not_of_row s.position) (in_position not_there s.position) (is_turned_where s.position)
        (is_stray_where s.position) (is_far_where u s.position)

    heading : Faults
    heading = (heading_of s.direction).faults

-- a solid of the view's attributes is seen
pub of_view : (i : Indexed) (n : ℕ) (view : ExtrudedAreaSolid) (s : Solid)
    → Gives rows.extruded_area_solid i n (Some (view.a1, (view.a2, (view.a3, (view.a4, tt)))))
    → IsOfView i view s → ShowsSolid i n s
of_view i n view s gives is = record {
  profile_at = view.a1;
  position_at = view.a2;
  direction_at = view.a3;
  gives = rw is.depth gives;
  profile_is = is.profile;
  position_is = is.position_is;
  direction_is = is.direction;
}

-- from parts that are kept
pub solid_of_parts : (u : units.Unit) (s : Solid) (contour : Contour) (local : Local) (heading : Heading) (depth : Measure)
    (faults : Faults) (way : ℤ) → IsContourOf u s.profile contour → local ≡ local_where u s.position
    → heading ≡ heading_of s.direction → depth ≡ measure_of u s.depth
    → faults ≡ joined contour.faults (joined (faults_of_local local) (joined heading.faults (measure_faults depth)))
    → way ≡ way_where heading.upward depth.length
    → IsExtrusionOf u (seen.Shown s) (record { faults = faults; loops = contour.loops; frame = local.frame; way = way })
solid_of_parts u s contour local heading depth faults way is local_is heading_is depth_is faults_are way_is =
    subst (IsExtrusionOf u (seen.Shown s)) same (solid_is u s contour is)
  where
    made : Faults → Frame → ℤ → Extrusion
    made f g w = record { faults = f; loops = contour.loops; frame = g; way = w }

    whole : Local → Heading → Measure → Extrusion
    whole l h d =
        made (joined contour.faults (joined (faults_of_local l) (joined h.faults (measure_faults d)))) l.frame
        (way_where h.upward d.length)

    same : whole (local_where u s.position) (heading_of s.direction) (measure_of u s.depth) ≡ made faults local.frame way
    same =
        sym (ap (λ f. made f local.frame way) faults_are
        ∙ (ap (λ w. made (joined contour.faults (joined (faults_of_local local) (joined heading.faults (measure_faults depth)))) local.frame w) way_is
        ∙ (ap (λ l. whole l heading depth) local_is
        ∙ (ap (λ h. whole (local_where u s.position) h depth) heading_is
        ∙ ap (λ d. whole (local_where u s.position) (heading_of s.direction) d) depth_is))))
