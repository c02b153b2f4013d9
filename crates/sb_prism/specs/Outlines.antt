-- Where the points of a profile lie: in nanometres in the plane of the profile, and carried into the world by
-- the solid's position and the product's frame, at the near and at the far end of the extrusion.
use Rattle.std.specs.Prelude.{ℕ, ℤ, pos, neg_ℤ, ◌+◌, ◌-◌, ◌/◌, Bool, true, int_lt, unsigned_abs, List, [], ◌∷◌, map, take}
use Rattle.std.specs.Prelude.{Option, Some, None, get_or, if◌then◌else◌}
use Rattle.std.specs.List.{flat_map}
use Rattle.sb_fraction.specs.declared.unit.Unit as units
use Rattle.sb_fraction.specs.Spots.{Vector, vector}
use Rattle.sb_fixed.specs.Lengths.{nanometres_of}
use Rattle.theory_turns.specs.Turns.{turned_by}
use Rattle.sb_model.specs.Frames.{vector_of, sum_of}
use Rattle.sb_model.specs.declared.frame.Frame.{Frame}
use Rattle.sb_place.specs.declared.sight.Seen.{Seen}
use Rattle.sb_place.specs.declared.sight.Seen.TheVariants as seen
use Rattle.sb_place.specs.declared.position.Position.{Position}
use Rattle.sb_place.specs.Directions.{Coordinates, vector_by, snapped}
use Rattle.sb_place.specs.Positions as position
use Rattle.sb_place.specs.Chains.{unmoved}
use Rattle.sb_prism.specs.Shapes.{Curve, Profile, Solid}
use Rattle.sb_prism.specs.Shapes.Curve.{polyline, indexed}
use Rattle.sb_prism.specs.Shapes.Profile.{rectangle, area}
use Rattle.sb_prism.specs.Faults.{index_of}

-- ---- in the plane of the profile

-- the texts of the coordinates of a point, as far as they are read: a third one is not
abbrev pub texts_at : Seen Coordinates → Coordinates
texts_at (seen.Shown texts) = take 2 texts
texts_at _ = []

-- the point of this index, counted from 1
abbrev pub point_numbered : List Coordinates → List ℕ → Coordinates
point_numbered points text = get_or points (index_of text - 1) []

-- The points of a curve: those of a polyline, those that the indices of the segments name, joined, or all of
-- the list where no segments are given.
abbrev pub points_of : Seen Curve → List Coordinates
points_of (seen.Shown (polyline points)) = map texts_at points
points_of (seen.Shown (indexed (seen.Shown points) None)) = points
points_of (seen.Shown (indexed (seen.Shown points) (Some segments))) =
    map (point_numbered points) (flat_map (λ s. s.list) segments)
points_of _ = []

-- a point of a profile in nanometres
abbrev pub spot_by : units.Unit → Coordinates → Vector
spot_by u texts = vector_by (λ text. nanometres_of text u) texts

-- half of a length, rounded away from 0
abbrev pub half_of : ℤ → ℤ
half_of nm = pos ((unsigned_abs nm + 1) / 2)

-- where a frame takes a vector
abbrev pub carried : Frame → Vector → Vector
carried f v = sum_of (turned_by f.turn v) (vector_of f.shift)

-- the frame of a position that may be left out
abbrev pub frame_where : units.Unit → Option (Seen Position) → Frame
frame_where u None = unmoved
frame_where u (Some s) = position.frame_in u s

-- the corners at plus and minus half of XDim and YDim about the position
abbrev pub corners_about : Frame → ℤ → ℤ → List Vector
corners_about f x y =
    carried f (vector (neg_ℤ x) (neg_ℤ y) (pos 0)) ∷ carried f (vector x (neg_ℤ y) (pos 0))
    ∷ carried f (vector x y (pos 0)) ∷ carried f (vector (neg_ℤ x) y (pos 0)) ∷ []

-- the loops of a profile, the outer one first
abbrev pub loops_in : units.Unit → Seen Profile → List (List Vector)
loops_in u (seen.Shown (rectangle p x y)) =
    corners_about (frame_where u p) (half_of (nanometres_of x u)) (half_of (nanometres_of y u)) ∷ []
loops_in u (seen.Shown (area outer inner)) =
    map (spot_by u) (points_of outer) ∷ map (λ c. map (spot_by u) (points_of c)) inner
loops_in u _ = []

-- ---- in the world

-- up where the direction of the extrusion is the local z, down where it is the opposite
abbrev pub points_up : Option Vector → Bool
points_up None = true
points_up (Some v) = int_lt (pos 0) v.z

abbrev pub is_upward : Seen Coordinates → Bool
is_upward (seen.Shown ratios) = points_up (snapped ratios)
is_upward _ = true

-- the way from the near end of a solid to its far end
abbrev pub way_of : units.Unit → Solid → Vector
way_of u s =
    vector (pos 0) (pos 0)
    (if is_upward s.direction then nanometres_of s.depth u else neg_ℤ (nanometres_of s.depth u))

-- where a point of the profile lies in the world, at the near end and at the far end
abbrev pub near_end : units.Unit → Frame → Solid → Vector → Vector
near_end u f s p = carried f (carried (frame_where u s.position) p)

abbrev pub far_end : units.Unit → Frame → Solid → Vector → Vector
far_end u f s p = carried f (carried (frame_where u s.position) (sum_of p (way_of u s)))

-- all points of a solid's profile at both ends
abbrev pub world_points : units.Unit → Frame → Solid → List Vector
world_points u f s =
    flat_map (λ loop. flat_map (λ p. near_end u f s p ∷ far_end u f s p ∷ []) loop) (loops_in u s.profile)
