-- The prism of a shape in a frame, or its first fault.
use Rattle.std.specs.Prelude.{◌≡◌, ℕ, pos, Bool, true, false, not, ◌||◌, List, [], map, Option, Some, None, Result, Ok, Err}
use Rattle.std.specs.List.{list_all, list_any}
use Rattle.theory_lists.specs.Members.{Stands}
use Rattle.sb_fraction.specs.declared.unit.Unit as units
use Rattle.sb_fraction.specs.Spots.{Vector, vector}
use Rattle.theory_turns.specs.Turns.{turned_by}
use Rattle.sb_model.specs.Solids.{Upright}
use Rattle.sb_model.specs.declared.frame.Frame.{Frame}
use Rattle.sb_solid.specs.Grid.{is_near, is_in_world}
use Rattle.sb_solid.specs.Solids.{each_coordinate, in_millimetres, prism_between}
use Rattle.sb_place.specs.declared.sight.Seen.{Seen}
use Rattle.sb_place.specs.declared.sight.Seen.TheVariants as seen
use Rattle.sb_place.specs.declared.position.Position.{Position}
use Rattle.sb_place.specs.Directions.{Coordinates, all_three}
use Rattle.sb_place.specs.Positions as position
use Rattle.sb_prism.specs.Shapes.{Curve, Profile, Solid, Shape, IsShape}
use Rattle.sb_prism.specs.Shapes.Profile.{rectangle as rectangle_profile, area}
use Rattle.sb_step.specs.Indexed.{Indexed}
use Rattle.sb_prism.specs.declared.error.PrismError.{PrismError}
use Rattle.sb_prism.specs.declared.error.PrismError.TheVariants as prism_error
use Rattle.sb_prism.specs.Faults.{in_shape, is_turned, is_misshapen, solid_of}
use Rattle.sb_prism.specs.Faults.Fault.{not_of_row, not_there}
use Rattle.sb_prism.specs.Outlines.{points_of, frame_where, loops_in, near_end, far_end, world_points}

-- ---- out of range, and off the grid

abbrev pub is_far_where : units.Unit → Option (Seen Position) → Bool
is_far_where u None = false
is_far_where u (Some s) = position.is_far u s

-- a coordinate of the point is out of range
abbrev pub is_far_point : units.Unit → Coordinates → Bool
is_far_point u texts = not (all_three (position.is_length u) texts)

-- a coordinate of a point of the curve
abbrev pub is_far_curve : units.Unit → Seen Curve → Bool
is_far_curve u c = list_any (is_far_point u) (points_of c)

-- a length of a profile is out of range
abbrev pub is_far_profile : units.Unit → Seen Profile → Bool
is_far_profile u (seen.Shown (rectangle_profile p x y)) =
    is_far_where u p || (not (position.is_length u x) || not (position.is_length u y))
is_far_profile u (seen.Shown (area outer inner)) =
    is_far_curve u outer || list_any (is_far_curve u) inner
is_far_profile u _ = false

-- a length of the solid is out of range
abbrev pub has_far_length : units.Unit → Solid → Bool
has_far_length u s =
    is_far_profile u s.profile || (is_far_where u s.position || not (position.is_length u s.depth))

-- a length is out of range, or a world coordinate
abbrev pub is_out_of_range : units.Unit → Frame → Solid → Bool
is_out_of_range u f s =
    has_far_length u s || not (list_all (each_coordinate is_in_world) (world_points u f s))

-- a world coordinate lies near no whole millimetre
abbrev pub is_off_grid : units.Unit → Frame → Solid → Bool
is_off_grid u f s = not (list_all (each_coordinate is_near) (world_points u f s))

-- ---- the prism

-- the loops of a profile at the near end, in millimetres
abbrev pub near_loops : units.Unit → Frame → Solid → List (List Vector)
near_loops u f s = map (λ loop. map (λ p. in_millimetres (near_end u f s p)) loop) (loops_in u s.profile)

-- the two ends of the extrusion in millimetres, as the origin of the profile is carried there
abbrev pub near_origin : units.Unit → Frame → Solid → Vector
near_origin u f s = in_millimetres (near_end u f s (vector (pos 0) (pos 0) (pos 0)))

abbrev pub far_origin : units.Unit → Frame → Solid → Vector
far_origin u f s = in_millimetres (far_end u f s (vector (pos 0) (pos 0) (pos 0)))

-- where the local z of a solid goes in the world
abbrev pub along_of : units.Unit → Frame → Solid → Vector
along_of u f s = turned_by f.turn (turned_by (frame_where u s.position).turn (vector (pos 0) (pos 0) (pos 1)))

-- the prism of a solid in a frame, where its loops give one
abbrev pub prism_of : units.Unit → Frame → Solid → Option Upright
prism_of u f s = prism_between (along_of u f s) (near_loops u f s) (near_origin u f s) (far_origin u f s)

-- ---- the judgement

-- each instance of the shape is there and of its row
pub record IsRead (s : Seen Shape) : Type 0 where
  pub of_rows : in_shape not_of_row s ≡ []
  pub present : in_shape not_there s ≡ []

-- What is answered of the solid of a shape that is neither turned nor misshapen: the first that holds of
-- Range, OffGrid and Loops, or its prism.
abbrev pub JudgesSolid : units.Unit → Frame → Solid → Result Upright PrismError → Type 0
JudgesSolid u f s (Err prism_error.Range) = is_out_of_range u f s ≡ true
JudgesSolid u f s (Err prism_error.OffGrid) =
    (is_out_of_range u f s ≡ false) × (is_off_grid u f s ≡ true)
JudgesSolid u f s (Err prism_error.Loops) =
    (is_out_of_range u f s ≡ false) × (is_off_grid u f s ≡ false) × (prism_of u f s ≡ None)
JudgesSolid u f s (Ok prism) =
    (is_out_of_range u f s ≡ false) × (is_off_grid u f s ≡ false) × (prism_of u f s ≡ Some prism)
JudgesSolid u f s _ = ⊥

-- What is answered of a shape: the first that holds of Fields, Missing, Turned, Shape, Range, OffGrid and
-- Loops, or its prism. Of several instances that are not of their row, or absent, any may be named.
abbrev pub Judges : units.Unit → Frame → Seen Shape → Result Upright PrismError → Type 0
Judges u f s (Err (prism_error.Fields n)) = Stands n (in_shape not_of_row s)
Judges u f s (Err (prism_error.Missing n)) =
    (in_shape not_of_row s ≡ []) × Stands n (in_shape not_there s)
Judges u f s (Err prism_error.Turned) = IsRead s × (is_turned s ≡ true)
Judges u f s (Err prism_error.Shape) =
    IsRead s × (is_turned s ≡ false) × (is_misshapen u s ≡ true)
Judges u f s (Err prism_error.NoMemory) = Unit {0}
Judges u f s result =
    IsRead s × (is_turned s ≡ false) × (is_misshapen u s ≡ false)
    × ((solid : Solid) × (solid_of s ≡ Some solid) × JudgesSolid u f solid result)

-- what is answered of the shape of this number
abbrev pub IsPrismOf : Indexed → ℕ → Frame → units.Unit → Result Upright PrismError → Type 0
IsPrismOf indexed n f u (Err prism_error.NoMemory) = Unit {0}
IsPrismOf indexed n f u result = (s : Seen Shape) × IsShape indexed n s × Judges u f s result
