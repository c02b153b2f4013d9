-- What is kept of a shape as it is read: of its faults the first of each kind, and the points of its
-- profile, not as texts.
use Rattle.std.specs.Prelude.{◌≡◌, ◌≤◌, ℕ, ℤ, pos, neg_ℤ, unsigned_abs, ◌++◌, ◌||◌, not, Bool, false, List, [], ◌∷◌, map, Option, Some, None, slice_get, is_none, if◌then◌else◌}
use Rattle.std.specs.List.{list_any, flat_map}
use Rattle.sb_fraction.specs.declared.unit.Unit as units
use Rattle.sb_fraction.specs.Spots.{Vector, vector}
use Rattle.theory_turns.specs.Turns.{Quarter}
use Rattle.sb_fixed.specs.Lengths.{nanometres_of, greatest_nanometres}
use Rattle.sb_step.specs.Indexed.{Indexed}
use Rattle.sb_schema.specs.Rows as rows
use Rattle.sb_place.specs.declared.sight.Seen.{Seen}
use Rattle.sb_place.specs.declared.sight.Seen.TheVariants as seen
use Rattle.sb_place.specs.declared.position.Position.{Position}
use Rattle.sb_place.specs.declared.position.Local.{Local}
use Rattle.sb_place.specs.Directions.{Coordinates, all_three}
use Rattle.sb_place.specs.Sight.{IsSeen, absent_at, broken_at, is_other}
use Rattle.sb_place.specs.Positions.{is_length, IsSpacePosition, IsDirection}
use Rattle.sb_prism.specs.declared.faults.Faults.{Faults}
use Rattle.sb_solid.specs.declared.spot.Spot.{Spot}
use Rattle.sb_prism.specs.declared.sections.outline.Outline.{Outline}
use Rattle.sb_prism.specs.declared.items.body.Body.{Body}
use Rattle.sb_prism.specs.declared.kept.Extrusion.{Extrusion}
use Rattle.sb_prism.specs.declared.kept.Kept.{Kept}
use Rattle.sb_prism.specs.declared.items.heading.Heading.{Heading}
use Rattle.sb_schema.specs.declared.entities.shapes.ExtrudedAreaSolid.{ExtrudedAreaSolid}
use Rattle.sb_prism.specs.declared.sections.contour.Contour.{Contour}
use Rattle.sb_prism.specs.declared.measure.Measure.{Measure}
use Rattle.sb_model.specs.declared.frame.Frame.{Frame}
use Rattle.sb_place.specs.Kept.{local_of}
use Rattle.sb_place.specs.Chains as chain
use Rattle.sb_place.specs.Positions as position
use Rattle.sb_prism.specs.Shapes.{Curve, Profile, Representation, Solid, Shape, IsWhere, IsProfile, first_body}
use Rattle.sb_prism.specs.Shapes.Profile.{rectangle}
use Rattle.sb_prism.specs.Faults.{named, in_curve, in_profile, in_solid, in_items, in_shape, is_no_curve, is_turned_where, is_turned_profile, is_turned_by, is_turned, is_no_profile, is_no_extrusion, is_no_solid, is_no_body, is_misshapen, is_above, only_solid, solid_of}
use Rattle.sb_prism.specs.Faults.Fault.{not_of_row, not_there}
use Rattle.sb_prism.specs.Outlines.{points_of, spot_by, texts_at, loops_in, carried, corners_about, half_of, frame_where, is_upward, way_of}
use Rattle.sb_prism.specs.Prisms.{is_far_point, is_far_curve, is_far_profile, has_far_length}

-- ---- faults

-- the first that is not of its row and the first that is absent, and the other faults
abbrev pub faults_of : List ℕ → List ℕ → Bool → Bool → Bool → Faults
faults_of broken absent turned stray far = record {
  broken = slice_get broken 0;
  absent = slice_get absent 0;
  turned = turned;
  stray = stray;
  far = far;
}

-- those of a position
abbrev pub faults_of_local : Local → Faults
faults_of_local local = record {
  broken = local.broken;
  absent = local.absent;
  turned = local.turned;
  stray = local.stray;
  far = local.far;
}

abbrev pub first_of : Option ℕ → Option ℕ → Option ℕ
first_of None later = later
first_of (Some n) later = Some n

abbrev pub either_of : Bool → Bool → Bool
either_of a b = a || b

-- those of one thing, and of another behind it
abbrev pub joined : Faults → Faults → Faults
joined a b = record {
  broken = first_of a.broken b.broken;
  absent = first_of a.absent b.absent;
  turned = either_of a.turned b.turned;
  stray = either_of a.stray b.stray;
  far = either_of a.far b.far;
}

-- ---- points

-- the point as it is kept
abbrev pub spot_of : Vector → Spot
spot_of v = record { x = v.x; y = v.y; z = v.z }

abbrev pub no_spot : Spot
no_spot = record { x = pos 0; y = pos 0; z = pos 0 }

-- a length in nanometres, where it is in range
abbrev pub length_in : units.Unit → List ℕ → Option ℤ
length_in u text = if is_length u text then Some (nanometres_of text u) else None

abbrev pub length_where : units.Unit → Option (List ℕ) → Option ℤ
length_where u None = Some (pos 0)
length_where u (Some text) = length_in u text

abbrev pub spot_from : Option ℤ → Option ℤ → Option Spot
spot_from (Some x) (Some y) = Some (record { x = x; y = y; z = pos 0 })
spot_from _ _ = None

-- a point in nanometres, where its coordinates are in range
abbrev pub spot_in : units.Unit → Coordinates → Option Spot
spot_in u texts = if all_three (is_length u) texts then Some (spot_of (spot_by u texts)) else None

-- and the origin where one is not
abbrev pub spot_or_none : Option Spot → Spot
spot_or_none None = no_spot
spot_or_none (Some s) = s

abbrev pub spot_at : units.Unit → Coordinates → Spot
spot_at u texts = spot_or_none (spot_in u texts)

-- ---- curves

-- what is kept of a point of a polyline
abbrev pub point_faults : units.Unit → Seen Coordinates → Faults
point_faults u p = faults_of (broken_at p) (absent_at p) false (is_other p) (is_far_point u (texts_at p))

-- what is kept of a curve
abbrev pub curve_faults : units.Unit → Seen Curve → Faults
curve_faults u s =
    faults_of (in_curve not_of_row s) (in_curve not_there s) false (is_no_curve s) (is_far_curve u s)

abbrev pub outline_of : units.Unit → Seen Curve → Outline
outline_of u s = record { faults = curve_faults u s; points = map (spot_at u) (points_of s) }

-- no points, and what is at fault
abbrev pub without_points : Faults → Outline
without_points faults = record { faults = faults; points = [] }

-- an outline with a point more, and what is at fault there
abbrev pub with_spot : Outline → Faults → Spot → Outline
with_spot outline faults spot = record {
  faults = joined outline.faults faults;
  points = outline.points ++ spot ∷ [];
}

-- a point that was read in a list, with its faults
abbrev pub with_measured : Outline → Option Spot → Outline
with_measured outline spot = with_spot outline (faults_of [] [] false false (is_none spot)) (spot_or_none spot)

-- with a point for each of these coordinates
abbrev pub with_points : units.Unit → Outline → List Coordinates → Outline
with_points u outline coordinates = record {
  faults = joined outline.faults (faults_of [] [] false false (list_any (is_far_point u) coordinates));
  points = outline.points ++ map (spot_at u) coordinates;
}

-- the list of points of this number
abbrev pub IsList : Indexed → ℕ → Seen (List Coordinates) → Type 0
IsList i n s = IsSeen rows.cartesian_point_list_2d i n (λ pairs. (pairs, tt)) s

-- ---- profiles

-- what is kept of curves
abbrev pub contour_of : units.Unit → List (Seen Curve) → Contour
contour_of u curves = record {
  faults =
      faults_of (flat_map (in_curve not_of_row) curves) (flat_map (in_curve not_there) curves) false
      (list_any is_no_curve curves) (list_any (is_far_curve u) curves);
  loops = map (λ c. map (spot_at u) (points_of c)) curves;
}

-- no loops, and what is at fault
abbrev pub without_loops : Faults → Contour
without_loops faults = record { faults = faults; loops = [] }

-- with one more
abbrev pub with_loop : Contour → Outline → Contour
with_loop contour outline = record {
  faults = joined contour.faults outline.faults;
  loops = contour.loops ++ outline.points ∷ [];
}

-- a length that has to be above 0
abbrev pub measure_of : units.Unit → List ℕ → Measure
measure_of u text = record { length = length_in u text; above = is_above u text }

abbrev pub measure_faults : Measure → Faults
measure_faults m = faults_of [] [] false (not m.above) (is_none m.length)

abbrev pub IsLengthWhere : Option ℤ → Type 0
IsLengthWhere None = Unit {0}
IsLengthWhere (Some nm) = unsigned_abs nm ≤ greatest_nanometres

-- no turn, and no shift
abbrev pub unturned : Quarter
unturned = position.unturned

abbrev pub unmoved : Frame
unmoved = chain.unmoved

-- what a position says, and one that is left out
abbrev pub nowhere : Local
nowhere = record { broken = None; absent = None; stray = false; turned = false; far = false; frame = chain.unmoved }

abbrev pub local_where : units.Unit → Option (Seen Position) → Local
local_where u None = nowhere
local_where u (Some s) = local_of u s

-- a corner, and the loop of a rectangle where its sides are in range
abbrev pub corner_at : Frame → ℤ → ℤ → Spot
corner_at f x y = spot_of (carried f (vector x y (pos 0)))

abbrev pub rectangle_loops : Frame → Option ℤ → Option ℤ → List (List Spot)
rectangle_loops f (Some x) (Some y) = map spot_of (corners_about f (half_of x) (half_of y)) ∷ []
rectangle_loops f _ _ = []

-- what is at fault with a profile
abbrev pub profile_faults : units.Unit → Seen Profile → Faults
profile_faults u s =
    faults_of (in_profile not_of_row s) (in_profile not_there s) (is_turned_profile s) (is_no_profile u s)
    (is_far_profile u s)

-- what is kept of a profile
pub record IsContourOf (u : units.Unit) (s : Seen Profile) (contour : Contour) : Type 0 where
  pub faults : contour.faults ≡ profile_faults u s
  pub loops : is_far_profile u s ≡ false → contour.loops ≡ map (map spot_of) (loops_in u s)

abbrev pub IsRectangleOf : units.Unit → Option (Seen Position) → List ℕ → List ℕ → Contour → Type 0
IsRectangleOf u p x y contour = IsContourOf u (seen.Shown (rectangle p x y)) contour

-- ---- solids

-- what the direction of an extrusion says
abbrev pub heading_of : Seen Coordinates → Heading
heading_of d = record {
  faults = faults_of (broken_at d) (absent_at d) false (is_no_extrusion d) false;
  upward = is_upward d;
}

-- the way along the local z
abbrev pub signed_way : Bool → ℤ → ℤ
signed_way upward nm = if upward then nm else neg_ℤ nm

abbrev pub way_where : Bool → Option ℤ → ℤ
way_where upward None = pos 0
way_where upward (Some nm) = signed_way upward nm

-- a direction of the solid does not snap
abbrev pub is_turned_solid : Seen Solid → Bool
is_turned_solid (seen.Shown s) = is_turned_profile s.profile || is_turned_where s.position
is_turned_solid _ = false

-- a length of it is out of range
abbrev pub is_far_solid : units.Unit → Seen Solid → Bool
is_far_solid u (seen.Shown s) = has_far_length u s
is_far_solid u _ = false

abbrev pub solid_faults : units.Unit → Seen Solid → Faults
solid_faults u s =
    faults_of (in_solid not_of_row s) (in_solid not_there s) (is_turned_solid s) (is_no_solid u s) (is_far_solid u s)

-- frame, loops and way of a solid
pub record Keeps (u : units.Unit) (s : Solid) (e : Extrusion) : Type 0 where
  pub frame : e.frame ≡ frame_where u s.position
  pub loops : has_far_length u s ≡ false → e.loops ≡ map (map spot_of) (loops_in u s.profile)
  pub way : has_far_length u s ≡ false → e.way ≡ (way_of u s).z

abbrev pub KeepsIt : units.Unit → Seen Solid → Extrusion → Type 0
KeepsIt u (seen.Shown s) e = Keeps u s e
KeepsIt u _ e = Unit {0}

-- what is kept of a solid
pub record IsExtrusionOf (u : units.Unit) (s : Seen Solid) (e : Extrusion) : Type 0 where
  pub faults : e.faults ≡ solid_faults u s
  pub kept : KeepsIt u s e

-- the attributes of the solid are those of the view
pub record IsOfView (i : Indexed) (view : ExtrudedAreaSolid) (s : Solid) : Type 0 where
  pub profile : IsProfile i view.a1 s.profile
  pub position_is : IsWhere (IsSpacePosition i) view.a2 s.position
  pub direction : IsDirection i view.a3 s.direction
  pub depth : s.depth ≡ view.a4

-- ---- shapes

abbrev pub Items : Type 0
Items = Option (List (Seen Solid))

abbrev pub without_solid : Faults → Kept
without_solid faults = record { faults = faults; solid = None }

-- a length of the one solid is out of range
abbrev pub is_far_by : units.Unit → Option Solid → Bool
is_far_by u None = false
is_far_by u (Some s) = has_far_length u s

abbrev pub items_faults : units.Unit → Items → Faults
items_faults u items =
    faults_of (in_items not_of_row items) (in_items not_there items) (is_turned_by (only_solid items))
    (is_no_body u items) (is_far_by u (only_solid items))

-- the one solid is kept
abbrev pub KeepsSolid : units.Unit → Option Solid → Option Extrusion → Type 0
KeepsSolid u None kept = Unit {0}
KeepsSolid u (Some s) kept = (e : Extrusion) × (kept ≡ Some e) × Keeps u s e

abbrev pub KeepsOnly : units.Unit → Items → Kept → Type 0
KeepsOnly u items kept = KeepsSolid u (only_solid items) kept.solid

pub record IsItemsOf (u : units.Unit) (items : Items) (kept : Kept) : Type 0 where
  pub faults : kept.faults ≡ items_faults u items
  pub solid : KeepsOnly u items kept

abbrev pub instances_alone : Faults → Faults
instances_alone f = record { broken = f.broken; absent = f.absent; turned = false; stray = false; far = false }

-- what is at fault with a shape
abbrev pub shape_faults : units.Unit → Seen Shape → Faults
shape_faults u s =
    faults_of (in_shape not_of_row s) (in_shape not_there s) (is_turned s) (is_misshapen u s)
    (is_far_by u (solid_of s))

-- what is kept of a shape
pub record IsKeptOf (u : units.Unit) (s : Seen Shape) (kept : Kept) : Type 0 where
  pub faults : kept.faults ≡ shape_faults u s
  pub solid : KeepsSolid u (solid_of s) kept.solid

-- an index grows no further from here on
abbrev pub held : ℕ
held = 18446744073709551616

-- ---- the first Body

-- what is kept of representations
abbrev pub body_of : List (Seen Representation) → Body
body_of rs = record {
  faults =
      faults_of (flat_map (λ r. named not_of_row r) rs) (flat_map (λ r. named not_there r) rs)
      false false false;
  items = first_body rs;
}

-- what is at fault with a representation: one of another entity is passed over
abbrev pub representation_faults : Seen Representation → Faults
representation_faults r = faults_of (broken_at r) (absent_at r) false false false

-- the items of the first Body, or else of this one
abbrev pub items_or : Option (List ℕ) → Option (List ℕ) → Option (List ℕ)
items_or None later = later
items_or (Some items) later = Some items
