-- What is at fault in a shape: instances that are not of their row or absent, directions that do not snap,
-- and what makes it no extruded solid of the three profiles.
use Rattle.std.specs.Prelude.{ℕ, pos, Bool, true, false, not, ◌&&◌, ◌||◌, ◌++◌, nat_le, int_lt, List, [], ◌∷◌, length, codes}
use Rattle.std.specs.Prelude.{Option, Some, None, if◌then◌else◌}
use Rattle.std.specs.List.{list_all, list_any, flat_map}
use Rattle.std.specs.Str.{bytes_eq}
use Rattle.std.specs.Str.Parse.{digits_value}
use Rattle.std.specs.Ordering.{int_eq}
use Rattle.sb_fraction.specs.declared.unit.Unit as units
use Rattle.sb_fraction.specs.Spots.{Vector}
use Rattle.sb_fixed.specs.Decimals.{digits_in, has_minus}
use Rattle.sb_fixed.specs.Lengths.{nanometres_of}
use Rattle.sb_schema.specs.declared.lists.TypedList.{TypedList}
use Rattle.sb_place.specs.declared.sight.Seen.{Seen}
use Rattle.sb_place.specs.declared.sight.Seen.TheVariants as seen
use Rattle.sb_place.specs.declared.position.Position.{Position}
use Rattle.sb_place.specs.Sight.{absent_at, broken_at, is_other}
use Rattle.sb_place.specs.Directions.{Coordinates, snapped}
use Rattle.sb_place.specs.Positions as position
use Rattle.sb_prism.specs.Shapes.{Curve, Profile, Solid, Shape}
use Rattle.sb_prism.specs.Shapes.Curve.{polyline, indexed}
use Rattle.sb_prism.specs.Shapes.Profile.{rectangle, area}

-- ---- instances that are not of their row, and those that are absent

pub data Fault : Type 0 where
  not_of_row : Fault
  not_there : Fault

-- the number that is seen to be at this fault
abbrev pub named : Fault → {V : Type 0} → Seen V → List ℕ
named not_of_row s = broken_at s
named not_there s = absent_at s

abbrev pub in_position : Fault → Option (Seen Position) → List ℕ
in_position fault None = []
in_position not_of_row (Some s) = position.broken_in s
in_position not_there (Some s) = position.absent_in s

abbrev pub in_curve : Fault → Seen Curve → List ℕ
in_curve fault (seen.Shown (polyline points)) = flat_map (λ p. named fault p) points
in_curve fault (seen.Shown (indexed points _)) = named fault points
in_curve fault s = named fault s

abbrev pub in_profile : Fault → Seen Profile → List ℕ
in_profile fault (seen.Shown (rectangle p _ _)) = in_position fault p
in_profile fault (seen.Shown (area outer inner)) = in_curve fault outer ++ flat_map (in_curve fault) inner
in_profile fault s = named fault s

abbrev pub in_solid : Fault → Seen Solid → List ℕ
in_solid fault (seen.Shown s) =
    in_profile fault s.profile ++ (in_position fault s.position ++ named fault s.direction)
in_solid fault s = named fault s

abbrev pub in_items : Fault → Option (List (Seen Solid)) → List ℕ
in_items fault None = []
in_items fault (Some solids) = flat_map (in_solid fault) solids

-- all instances that are read of a shape and are at this fault
abbrev pub in_shape : Fault → Seen Shape → List ℕ
in_shape fault (seen.Shown s) =
    flat_map (λ r. named fault r) s.representations ++ in_items fault s.items
in_shape fault s = named fault s

-- ---- the one solid

-- the solid of a shape whose Body has one item
abbrev pub only_solid : Option (List (Seen Solid)) → Option Solid
only_solid (Some (seen.Shown s ∷ [])) = Some s
only_solid _ = None

abbrev pub solid_of : Seen Shape → Option Solid
solid_of (seen.Shown s) = only_solid s.items
solid_of _ = None

-- ---- turned

abbrev pub is_turned_where : Option (Seen Position) → Bool
is_turned_where None = false
is_turned_where (Some s) = position.is_turned s

-- the position of a rectangle
abbrev pub is_turned_profile : Seen Profile → Bool
is_turned_profile (seen.Shown (rectangle p _ _)) = is_turned_where p
is_turned_profile _ = false

-- The solid's position or its rectangle's is turned by no quarters. That asks for the solid, and for
-- nothing else of the shape.
abbrev pub is_turned_by : Option Solid → Bool
is_turned_by None = false
is_turned_by (Some s) = is_turned_profile s.profile || is_turned_where s.position

abbrev pub is_turned : Seen Shape → Bool
is_turned s = is_turned_by (solid_of s)

-- ---- no shape of the profile

abbrev pub is_stray_where : Option (Seen Position) → Bool
is_stray_where None = false
is_stray_where (Some s) = position.is_stray s

-- the index that a text writes; 0, which is none, where it is negative
abbrev pub index_of : List ℕ → ℕ
index_of text = if has_minus text then 0 else digits_value 10 (digits_in text)

-- an index from 1 to the number of points
abbrev pub is_index : ℕ → List ℕ → Bool
is_index count text = nat_le 1 (index_of text) && nat_le (index_of text) count

-- a segment of straight lines between points that are there
abbrev pub is_segment : ℕ → TypedList → Bool
is_segment count s = bytes_eq s.keyword (codes "IFCLINEINDEX") && list_all (is_index count) s.list

abbrev pub are_segments : ℕ → Option (List TypedList) → Bool
are_segments count None = true
are_segments count (Some segments) = list_all (is_segment count) segments

-- a curve of another entity, or with a point or a list of points of one, or with another segment
abbrev pub is_no_curve : Seen Curve → Bool
is_no_curve (seen.Shown (polyline points)) = list_any (λ p. is_other p) points
is_no_curve (seen.Shown (indexed (seen.Shown points) segments)) = not (are_segments (length points) segments)
is_no_curve (seen.Shown (indexed points _)) = is_other points
is_no_curve s = is_other s

-- a length above 0, as it is rounded to the nanometre
abbrev pub is_above : units.Unit → List ℕ → Bool
is_above u text = int_lt (pos 0) (nanometres_of text u)

abbrev pub is_no_profile : units.Unit → Seen Profile → Bool
is_no_profile u (seen.Shown (rectangle p x y)) = is_stray_where p || (not (is_above u x) || not (is_above u y))
is_no_profile u (seen.Shown (area outer inner)) = is_no_curve outer || list_any is_no_curve inner
is_no_profile u s = is_other s

-- the direction snaps to the local z or its opposite
abbrev pub is_along_z : Option Vector → Bool
is_along_z None = false
is_along_z (Some v) = int_eq v.x (pos 0) && int_eq v.y (pos 0)

-- an extrusion along another direction, or with one of another entity
abbrev pub is_no_extrusion : Seen Coordinates → Bool
is_no_extrusion (seen.Shown ratios) = not (is_along_z (snapped ratios))
is_no_extrusion s = is_other s

abbrev pub is_no_solid : units.Unit → Seen Solid → Bool
is_no_solid u (seen.Shown s) =
    is_no_profile u s.profile
    || (is_stray_where s.position || (is_no_extrusion s.direction || not (is_above u s.depth)))
is_no_solid u s = is_other s

-- a Body with one item
abbrev pub is_no_body : units.Unit → Option (List (Seen Solid)) → Bool
is_no_body u (Some (s ∷ [])) = is_no_solid u s
is_no_body u _ = true

abbrev pub is_misshapen : units.Unit → Seen Shape → Bool
is_misshapen u (seen.Shown s) = is_no_body u s.items
is_misshapen u s = is_other s
