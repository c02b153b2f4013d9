-- What is kept of a profile, curve by curve and side by side.
use Rattle.std.proofs.Common.{◌≡◌, ℕ, ℤ, Bool, true, false, ◌||◌, not, List, [], ◌∷◌, ◌++◌, map, Option, Some, None, refl, sym, ap, ◌∙◌, subst}
use Rattle.std.specs.Prelude.{neg_ℤ, is_none, if◌then◌else◌}
use Rattle.std.specs.List.{flat_map, list_any}
use Rattle.std.proofs.lemmas.List.{map-append}
use Rattle.sb_fraction.specs.declared.unit.Unit as units
use Rattle.sb_fixed.specs.Lengths.{nanometres_of}
use Rattle.sb_place.specs.declared.sight.Seen.{Seen}
use Rattle.sb_place.specs.declared.sight.Seen.TheVariants as seen
use Rattle.sb_model.specs.declared.frame.Frame.{Frame}
use Rattle.sb_place.specs.declared.position.Position.{Position}
use Rattle.sb_place.specs.declared.position.Local.{Local}
use Rattle.sb_prism.specs.declared.measure.Measure.{Measure}
use Rattle.sb_place.specs.Directions.{Coordinates, all_three}
use Rattle.sb_place.specs.Positions.{is_length}
use Rattle.sb_prism.specs.declared.faults.Faults.{Faults}
use Rattle.sb_solid.specs.declared.spot.Spot.{Spot}
use Rattle.sb_prism.specs.declared.sections.contour.Contour.{Contour}
use Rattle.sb_prism.specs.declared.sections.outline.Outline.{Outline}
use Rattle.sb_step.specs.Indexed.{Indexed}
use Rattle.sb_prism.specs.Shapes.{Curve, AreEach, IsCurve}
use Rattle.sb_prism.specs.Shapes.Profile.{rectangle, area}
use Rattle.sb_prism.specs.Faults.{in_curve, in_position, is_no_curve, is_turned_where, is_stray_where, is_above}
use Rattle.sb_prism.specs.Faults.Fault.{not_of_row, not_there}
use Rattle.sb_prism.specs.Outlines.{points_of, spot_by, frame_where, corners_about}
use Rattle.sb_prism.specs.Prisms.{is_far_point, is_far_curve, is_far_where}
use Rattle.sb_prism.specs.Kept.{faults_of, faults_of_local, joined, spot_of, spot_at, spot_or_none, outline_of, contour_of, without_loops, with_loop, length_in, measure_of, measure_faults, local_where, corner_at, rectangle_loops, IsContourOf}
use Rattle.sb_prism.proofs.FaultsAreJoined.{joined_faults, joined_lengths}
use Rattle.sb_prism.proofs.Outlines.OutlinesAreRead.{any_push, flat_push}

-- one curve more
pub contour_more : (u : units.Unit) (cs : List (Seen Curve)) (c : Seen Curve)
    → with_loop (contour_of u cs) (outline_of u c) ≡ contour_of u (cs ++ c ∷ [])
contour_more u cs c =
    rw (
      flat_push (in_curve not_of_row) cs c,
      flat_push (in_curve not_there) cs c,
      any_push is_no_curve cs c,
      any_push (is_far_curve u) cs c,
      map-append (λ d. map (spot_at u) (points_of d)) cs (c ∷ []),
    )
    (ap (λ f. record { faults = f; loops = map (λ d. map (spot_at u) (points_of d)) cs ++ map (spot_at u) (points_of c) ∷ [] })
    (joined_faults (flat_map (in_curve not_of_row) cs) (in_curve not_of_row c) (flat_map (in_curve not_there) cs)
    (in_curve not_there c) false false (list_any is_no_curve cs) (is_no_curve c) (list_any (is_far_curve u) cs)
    (is_far_curve u c)))

-- ---- points in range

pub neither : (a b : Bool) → (a || b) ≡ false → (a ≡ false) × (b ≡ false)
neither false b h = (refl, h)
neither true b h = absurd (cc)

kept_if : (b : Bool) (s : Spot) → not b ≡ false → spot_or_none (if b then Some s else None) ≡ s
kept_if true s h = refl
kept_if false s h = absurd (cc)

near_points : (u : units.Unit) (points : List Coordinates) → list_any (is_far_point u) points ≡ false
    → map (spot_at u) points ≡ map spot_of (map (spot_by u) points)
near_points u [] near = refl
near_points u (p ∷ points) near =
    let parts = neither (is_far_point u p) (list_any (is_far_point u) points) near in
    let first : spot_at u p ≡ spot_of (spot_by u p) =
    kept_if (all_three (is_length u) p) (spot_of (spot_by u p)) parts.0 in
    let later = near_points u points parts.1 in
    ap (λ s. s ∷ map (spot_at u) points) first ∙ ap (λ ss. spot_of (spot_by u p) ∷ ss) later

near_loops : (u : units.Unit) (curves : List (Seen Curve)) → list_any (is_far_curve u) curves ≡ false
    → map (λ c. map (spot_at u) (points_of c)) curves
    ≡ map (map spot_of) (map (λ c. map (spot_by u) (points_of c)) curves)
near_loops u [] near = refl
near_loops u (c ∷ curves) near =
    let parts = neither (is_far_curve u c) (list_any (is_far_curve u) curves) near in
    let first = near_points u (points_of c) parts.0 in
    let later = near_loops u curves parts.1 in
    ap (λ s. s ∷ map (λ d. map (spot_at u) (points_of d)) curves) first
    ∙ ap (λ ss. map spot_of (map (spot_by u) (points_of c)) ∷ ss) later

-- a profile of curves
pub area_is : (u : units.Unit) (outer : Seen Curve) (inner : List (Seen Curve)) (contour : Contour)
    → contour ≡ contour_of u (outer ∷ inner) → IsContourOf u (seen.Shown (area outer inner)) contour
area_is u outer inner contour is = record {
  faults = ap (λ c. c.faults) is;
  loops = λ near. ap (λ c. c.loops) is ∙ near_loops u (outer ∷ inner) near;
}

-- ---- a rectangle

pub none_kept : {X : Type 0} (b : Bool) (x : X) → is_none (if b then Some x else None) ≡ not b
none_kept true x = refl
none_kept false x = refl

-- what is at fault with a position that may be left out
pub local_faults : (u : units.Unit) (p : Option (Seen Position))
    → faults_of_local (local_where u p)
    ≡ faults_of (in_position not_of_row p) (in_position not_there p) (is_turned_where p) (is_stray_where p) (is_far_where u p)
local_faults u None = refl
local_faults u (Some s) = refl

pub local_frame : (u : units.Unit) (p : Option (Seen Position)) → (local_where u p).frame ≡ frame_where u p
local_frame u None = refl
local_frame u (Some s) = refl

pub measured_faults : (u : units.Unit) (text : List ℕ)
    → measure_faults (measure_of u text) ≡ faults_of [] [] false (not (is_above u text)) (not (is_length u text))
measured_faults u text =
    ap (λ far. faults_of [] [] false (not (is_above u text)) far)
    (none_kept (is_length u text) (nanometres_of text u))

pub length_kept : (u : units.Unit) (text : List ℕ) → not (is_length u text) ≡ false
    → length_in u text ≡ Some (nanometres_of text u)
length_kept u text near = by (is_length u text) near
  where
    by : (b : Bool) → not b ≡ false → (if b then Some (nanometres_of text u) else None) ≡ Some (nanometres_of text u)
    by true h = refl
    by false h = absurd (cc)

pub rectangle_is : (u : units.Unit) (p : Option (Seen Position)) (x y : List ℕ)
    → IsContourOf u (seen.Shown (rectangle p x y))
    (record {
      faults = joined (faults_of_local (local_where u p)) (joined (measure_faults (measure_of u x)) (measure_faults (measure_of u y)));
      loops = rectangle_loops (local_where u p).frame (length_in u x) (length_in u y);
    })
rectangle_is u p x y = record {
  faults =
      ap (λ f. joined f (joined (measure_faults (measure_of u x)) (measure_faults (measure_of u y)))) (local_faults u p)
      ∙ (ap (λ f. joined position (joined f (measure_faults (measure_of u y)))) (measured_faults u x)
      ∙ (ap (λ f. joined position (joined (faults_of [] [] false (not (is_above u x)) (not (is_length u x))) f)) (measured_faults u y)
      ∙ joined_lengths (in_position not_of_row p) (in_position not_there p) (is_turned_where p) (is_stray_where p)
      (not (is_above u x) || not (is_above u y)) (is_far_where u p) (not (is_length u x) || not (is_length u y))));
  loops = λ near.
      let parts = neither (is_far_where u p) (not (is_length u x) || not (is_length u y)) near in
      let sides = neither (not (is_length u x)) (not (is_length u y)) parts.1 in
      ap (λ l. rectangle_loops (local_where u p).frame l (length_in u y)) (length_kept u x sides.0)
      ∙ (ap (λ l. rectangle_loops (local_where u p).frame (Some (nanometres_of x u)) l) (length_kept u y sides.1)
      ∙ ap (λ f. rectangle_loops f (Some (nanometres_of x u)) (Some (nanometres_of y u))) (local_frame u p));
}
  where
    position : Faults
    position =
        faults_of (in_position not_of_row p) (in_position not_there p) (is_turned_where p) (is_stray_where p)
        (is_far_where u p)

pub rectangle_of_parts : (u : units.Unit) (p : Option (Seen Position)) (x y : List ℕ) (local : Local) (mx my : Measure)
    (faults : Faults) (contour : Contour) → local ≡ local_where u p → mx ≡ measure_of u x → my ≡ measure_of u y
    → faults ≡ joined (faults_of_local local) (joined (measure_faults mx) (measure_faults my))
    → contour ≡ record { faults = faults; loops = rectangle_loops local.frame mx.length my.length }
    → IsContourOf u (seen.Shown (rectangle p x y)) contour
rectangle_of_parts u p x y local mx my faults contour local_is x_is y_is faults_are is =
    subst (IsContourOf u (seen.Shown (rectangle p x y))) (sym same) (rectangle_is u p x y)
  where
    whole : Local → Measure → Measure → Contour
    whole l m n = record {
      faults = joined (faults_of_local l) (joined (measure_faults m) (measure_faults n));
      loops = rectangle_loops l.frame m.length n.length;
    }

    same : contour ≡ whole (local_where u p) (measure_of u x) (measure_of u y)
    same =
        is
        ∙ (ap (λ f. record { faults = f; loops = rectangle_loops local.frame mx.length my.length }) faults_are
        ∙ (ap (λ l. whole l mx my) local_is
        ∙ (ap (λ m. whole (local_where u p) m my) x_is ∙ ap (λ m. whole (local_where u p) (measure_of u x) m) y_is)))

-- the corners of a rectangle
pub four_corners : (f : Frame) (x y left low : ℤ) → left ≡ neg_ℤ x → low ≡ neg_ℤ y
    → corner_at f left low ∷ corner_at f x low ∷ corner_at f x y ∷ corner_at f left y ∷ []
    ≡ map spot_of (corners_about f x y)
four_corners f x y left low left_is low_is =
    ap (λ l. corner_at f l low ∷ corner_at f x low ∷ corner_at f x y ∷ corner_at f l y ∷ []) left_is
    ∙ ap (λ l. corner_at f (neg_ℤ x) l ∷ corner_at f x l ∷ corner_at f x y ∷ corner_at f (neg_ℤ x) y ∷ []) low_is

pub corners_are : (f : Frame) (x y left low : ℤ) (a b c d : Spot) → left ≡ neg_ℤ x → low ≡ neg_ℤ y
    → a ≡ corner_at f left low → b ≡ corner_at f x low → c ≡ corner_at f x y → d ≡ corner_at f left y
    → a ∷ b ∷ c ∷ d ∷ [] ≡ map spot_of (corners_about f x y)
corners_are f x y left low a b c d left_is low_is a_is b_is c_is d_is =
    ap (λ s. s ∷ b ∷ c ∷ d ∷ []) a_is
    ∙ (ap (λ s. corner_at f left low ∷ s ∷ c ∷ d ∷ []) b_is
    ∙ (ap (λ s. corner_at f left low ∷ corner_at f x low ∷ s ∷ d ∷ []) c_is
    ∙ (ap (λ s. corner_at f left low ∷ corner_at f x low ∷ corner_at f x y ∷ s ∷ []) d_is
    ∙ four_corners f x y left low left_is low_is)))

-- ---- profiles that show nothing

pub absent_profile : (u : units.Unit) (n : ℕ) (contour : Contour)
    → contour ≡ without_loops (faults_of [] (n ∷ []) false false false) → IsContourOf u (seen.Absent n) contour
absent_profile u n contour is = record { faults = ap (λ c. c.faults) is; loops = λ near. ap (λ c. c.loops) is }

pub broken_profile : (u : units.Unit) (n : ℕ) (contour : Contour)
    → contour ≡ without_loops (faults_of (n ∷ []) [] false false false) → IsContourOf u (seen.Broken n) contour
broken_profile u n contour is = record { faults = ap (λ c. c.faults) is; loops = λ near. ap (λ c. c.loops) is }

pub other_profile : (u : units.Unit) (contour : Contour)
    → contour ≡ without_loops (faults_of [] [] false true false) → IsContourOf u seen.Other contour
other_profile u contour is = record { faults = ap (λ c. c.faults) is; loops = λ near. ap (λ c. c.loops) is }

-- an area without voids
pub no_voids : (i : Indexed) (u : units.Unit) (outer : Seen Curve) (inner : List (Seen Curve)) (contour : Contour)
    → AreEach (IsCurve i) [] inner → contour ≡ contour_of u (outer ∷ inner)
    → (inner ≡ []) × IsContourOf u (seen.Shown (area outer [])) contour
no_voids i u outer [] contour none is = (refl, area_is u outer [] contour is)
no_voids i u outer (c ∷ inner) contour none is = absurd none

pub contour_grows : (u : units.Unit) (cs : List (Seen Curve)) (c : Seen Curve) (before after : Contour) (o : Outline)
    → before ≡ contour_of u cs → o ≡ outline_of u c → after ≡ with_loop before o → after ≡ contour_of u (cs ++ c ∷ [])
contour_grows u cs c before after o was is grown =
    grown ∙ (ap (λ b. with_loop b o) was ∙ (ap (with_loop (contour_of u cs)) is ∙ contour_more u cs c))
