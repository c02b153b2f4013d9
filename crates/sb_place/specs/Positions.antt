-- Positions: an origin and the directions of the local axes (IfcAxis2Placement3D and
-- IfcAxis2Placement2D), and the frame that they give.
use Rattle.std.specs.Prelude.{◌≡◌, ℕ, pos, ◌++◌, Bool, true, false, ◌||◌, not, nat_le, unsigned_abs, List, take}
use Rattle.std.specs.Prelude.{Option, Some, None, is_some, if◌then◌else◌}
use Rattle.sb_fraction.specs.declared.unit.Unit as units
use Rattle.sb_fraction.specs.Spots.{Vector, vector}
use Rattle.sb_fraction.specs.Directions.{axis_x, axis_z}
use Rattle.sb_fixed.specs.Lengths.{nanometres_of, greatest_nanometres}
use Rattle.theory_turns.specs.Turns.{Quarter, turn_of}
use Rattle.sb_step.specs.Indexed.{Indexed}
use Rattle.sb_schema.specs.Rows as rows
use Rattle.sb_schema.specs.Views.{Gives}
use Rattle.sb_model.specs.Frames.{numbers_of}
use Rattle.sb_model.specs.declared.frame.Frame.{Frame}
use Rattle.sb_place.specs.declared.sight.Seen.{Seen}
use Rattle.sb_place.specs.declared.sight.Seen.TheVariants as seen
use Rattle.sb_place.specs.declared.position.Position.{Position}
use Rattle.sb_place.specs.Sight.{Sees, IsSeen, absent_at, broken_at, is_other, absent_where, broken_where, is_other_where}
use Rattle.sb_place.specs.Directions.{Coordinates, vector_by, all_three, snapped}

-- ---- what is read

-- the point of this number
abbrev pub IsPoint : Indexed → ℕ → Seen Coordinates → Type 0
IsPoint indexed n s = IsSeen rows.cartesian_point indexed n (λ texts. (texts, tt)) s

-- the direction of this number
abbrev pub IsDirection : Indexed → ℕ → Seen Coordinates → Type 0
IsDirection indexed n s = IsSeen rows.direction indexed n (λ texts. (texts, tt)) s

-- a direction that may be left out
abbrev pub IsDirectionWhere : Indexed → Option ℕ → Option (Seen Coordinates) → Type 0
IsDirectionWhere indexed None None = Unit {0}
IsDirectionWhere indexed (Some n) (Some s) = IsDirection indexed n s
IsDirectionWhere indexed _ _ = ⊥

-- in the plan a third coordinate is not read
abbrev pub in_plan : Seen Coordinates → Seen Coordinates
in_plan (seen.Shown texts) = seen.Shown (take 2 texts)
in_plan s = s

abbrev pub in_plan_where : Option (Seen Coordinates) → Option (Seen Coordinates)
in_plan_where None = None
in_plan_where (Some s) = Some (in_plan s)

-- an IfcAxis2Placement3D with its point and its directions
pub record ShowsInSpace (indexed : Indexed) (n : ℕ) (p : Position) : Type 0 where
  pub point : ℕ
  pub axis_at : Option ℕ
  pub reference_at : Option ℕ
  pub gives : Gives rows.axis2_placement_3d indexed n (Some (point, (axis_at, (reference_at, tt))))
  pub location : IsPoint indexed point p.location
  pub axis : IsDirectionWhere indexed axis_at p.axis
  pub reference : IsDirectionWhere indexed reference_at p.reference

-- an IfcAxis2Placement2D with these: it has no axis of its own
pub record ShowsInPlan (indexed : Indexed) (n : ℕ) (p : Position) : Type 0 where
  pub point : ℕ
  pub reference_at : Option ℕ
  pub whole_location : Seen Coordinates
  pub whole_reference : Option (Seen Coordinates)
  pub gives : Gives rows.axis2_placement_2d indexed n (Some (point, (reference_at, tt)))
  pub location : IsPoint indexed point whole_location
  pub reference : IsDirectionWhere indexed reference_at whole_reference
  pub location_in_plan : p.location ≡ in_plan whole_location
  pub no_axis : p.axis ≡ None
  pub reference_in_plan : p.reference ≡ in_plan_where whole_reference

-- the position of this number, in space and in the plan
abbrev pub IsSpacePosition : Indexed → ℕ → Seen Position → Type 0
IsSpacePosition indexed n s = Sees rows.axis2_placement_3d indexed n (ShowsInSpace indexed n) s

abbrev pub IsPlanPosition : Indexed → ℕ → Seen Position → Type 0
IsPlanPosition indexed n s = Sees rows.axis2_placement_2d indexed n (ShowsInPlan indexed n) s

-- ---- what is at fault

-- the numbers of the instances of a position that are not of their row
abbrev pub broken_in : Seen Position → List ℕ
broken_in (seen.Shown p) = broken_at p.location ++ (broken_where p.axis ++ broken_where p.reference)
broken_in s = broken_at s

-- the numbers that it names and no instance has
abbrev pub absent_in : Seen Position → List ℕ
absent_in (seen.Shown p) = absent_at p.location ++ (absent_where p.axis ++ absent_where p.reference)
absent_in s = absent_at s

-- one of its instances is of another entity
abbrev pub is_stray : Seen Position → Bool
is_stray (seen.Shown p) = is_other p.location || (is_other_where p.axis || is_other_where p.reference)
is_stray s = is_other s

-- the direction is given, and snaps to no axis
abbrev pub is_slanted : Option (Seen Coordinates) → Bool
is_slanted (Some (seen.Shown texts)) = not (is_some (snapped texts))
is_slanted _ = false

-- the axis of a direction, and this axis where it is left out; none where none is known
abbrev pub axis_where : Vector → Option (Seen Coordinates) → Option Vector
axis_where left_out None = Some left_out
axis_where left_out (Some (seen.Shown texts)) = snapped texts
axis_where left_out _ = None

-- where the local z goes, and where the local x
abbrev pub z_in : Position → Option Vector
z_in p = axis_where axis_z p.axis

abbrev pub x_in : Position → Option Vector
x_in p = axis_where axis_x p.reference

-- the turn to these two, where both are known and stand at right angles
abbrev pub turn_to : Option Vector → Option Vector → Option Quarter
turn_to (Some x) (Some z) = turn_of x z
turn_to _ _ = None

-- both are known, and they are the same axis or opposite ones
abbrev pub are_along : Option Vector → Option Vector → Bool
are_along (Some x) (Some z) = not (is_some (turn_of x z))
are_along _ _ = false

-- a direction does not snap, or both snap to the same axis or to opposite ones
abbrev pub is_turned : Seen Position → Bool
is_turned (seen.Shown p) =
    is_slanted p.axis || (is_slanted p.reference || are_along (x_in p) (z_in p))
is_turned _ = false

-- the length is in range
abbrev pub is_length : units.Unit → List ℕ → Bool
is_length u text = nat_le (unsigned_abs (nanometres_of text u)) greatest_nanometres

-- the coordinates of the point are in range
abbrev pub is_near : units.Unit → Seen Coordinates → Bool
is_near u (seen.Shown texts) = all_three (is_length u) texts
is_near u _ = true

-- a coordinate of the origin is out of range
abbrev pub is_far : units.Unit → Seen Position → Bool
is_far u (seen.Shown p) = not (is_near u p.location)
is_far u _ = false

-- ---- the frame

-- no turn
abbrev pub unturned : Quarter
unturned = record { x = axis_x; z = axis_z }

-- a turn, and no turn where there is none
abbrev pub turn_or_none : Option Quarter → Quarter
turn_or_none None = unturned
turn_or_none (Some q) = q

-- the local x, y and z are the snapped RefDirection, z × x, and the snapped Axis
abbrev pub turn_in : Seen Position → Quarter
turn_in (seen.Shown p) = turn_or_none (turn_to (x_in p) (z_in p))
turn_in _ = unturned

-- the point in nanometres, where its coordinates are in range
abbrev pub origin_at : units.Unit → Seen Coordinates → Vector
origin_at u (seen.Shown texts) =
    if all_three (is_length u) texts
    then vector_by (λ text. nanometres_of text u) texts
    else vector (pos 0) (pos 0) (pos 0)
origin_at u _ = vector (pos 0) (pos 0) (pos 0)

abbrev pub origin_in : units.Unit → Seen Position → Vector
origin_in u (seen.Shown p) = origin_at u p.location
origin_in u _ = vector (pos 0) (pos 0) (pos 0)

-- The frame of a position. Where it is at fault no frame is read: it is then not turned, or not shifted.
abbrev pub frame_in : units.Unit → Seen Position → Frame
frame_in u s = record { turn = turn_in s; shift = numbers_of (origin_in u s) }
