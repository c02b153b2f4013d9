-- A solid in its own frame that is turned as a product is, and the numbers on the way.
use Rattle.std.specs.Prelude.{◌≡◌, ℤ, pos, Bool, true, false, ◌&&◌, List, [], ◌∷◌, map, Option, Some, None}
use Rattle.std.specs.List.{list_all}
use Rattle.sb_fraction.specs.Spots.{Vector, vector}
use Rattle.theory_turns.specs.Turns.{Quarter, turned_by}
use Rattle.sb_model.specs.Frames.{vector_of, numbers_of, sum_of, are_framed}
use Rattle.sb_model.specs.declared.frame.Frame.{Frame}
use Rattle.sb_solid.specs.declared.spot.Spot.{Spot}
use Rattle.sb_solid.specs.declared.points.sizes.Lying.{Lying}
use Rattle.sb_solid.specs.Solids.{Extruded}
use Rattle.sb_solid.specs.Steps.{vector_at}

-- where a frame takes a vector
abbrev pub carried : Frame → Vector → Vector
carried f v = sum_of (turned_by f.turn v) (vector_of f.shift)

-- the frame that turns and does not move
abbrev pub turn_alone : Quarter → Frame
turn_alone q = record { turn = q; shift = pos 0 ∷ pos 0 ∷ pos 0 ∷ [] }

-- where a point lies that is carried by a frame and then turned, and where a vector goes that is turned twice
abbrev pub turned_point : Quarter → Frame → Vector → Vector
turned_point q f p = carried (turn_alone q) (carried f p)

abbrev pub turned_vector : Quarter → Quarter → Vector → Vector
turned_vector q u v = turned_point q (turn_alone u) v

-- a point as the code keeps it
abbrev pub spot_vector : Spot → Vector
spot_vector s = vector s.x s.y s.z

-- the solid that is turned
abbrev pub extruded_of : Quarter → Frame → ℤ → List (List Spot) → Extruded
extruded_of q f way loops = record {
  loops = map (map (λ s. turned_point q f (spot_vector s))) loops;
  way = turned_vector q f.turn (vector (pos 0) (pos 0) way);
  along = turned_vector q f.turn (vector (pos 0) (pos 0) (pos 1));
}

-- ---- no number on the way is more than 10^18 in size

abbrev pub is_carried : Frame → Vector → Bool
is_carried f v = are_framed (numbers_of v) && (are_framed f.shift && are_framed (numbers_of (carried f v)))

abbrev pub is_turned : Quarter → Frame → Vector → Bool
is_turned q f v = is_carried f v && is_carried (turn_alone q) (carried f v)

abbrev pub is_fit : Quarter → Frame → ℤ → List (List Spot) → Bool
is_fit q f way loops =
    list_all (list_all (λ s. is_turned q f (spot_vector s))) loops
    && (is_turned q (turn_alone f.turn) (vector (pos 0) (pos 0) way)
    && is_turned q (turn_alone f.turn) (vector (pos 0) (pos 0) (pos 1)))

-- ---- the steps

abbrev pub IsPlaced : Frame → List ℤ → Option Lying → Type 0
IsPlaced f p None = is_carried f (vector_of p) ≡ false
IsPlaced f p (Some l) = (is_carried f (vector_of p) ≡ true) × (vector_at l ≡ carried f (vector_of p))

abbrev pub IsTurned : Quarter → Frame → Vector → Option Lying → Type 0
IsTurned q f v None = is_turned q f v ≡ false
IsTurned q f v (Some l) = (is_turned q f v ≡ true) × (vector_at l ≡ turned_point q f v)

abbrev pub IsTurnedLoop : Quarter → Frame → List Spot → Option (List Lying) → Type 0
IsTurnedLoop q f points None = list_all (λ s. is_turned q f (spot_vector s)) points ≡ false
IsTurnedLoop q f points (Some all) =
    (list_all (λ s. is_turned q f (spot_vector s)) points ≡ true)
    × (map vector_at all ≡ map (λ s. turned_point q f (spot_vector s)) points)

abbrev pub AreTurned : Quarter → Frame → List (List Spot) → Option (List (List Lying)) → Type 0
AreTurned q f loops None = list_all (list_all (λ s. is_turned q f (spot_vector s))) loops ≡ false
AreTurned q f loops (Some all) =
    (list_all (list_all (λ s. is_turned q f (spot_vector s))) loops ≡ true)
    × (map (map vector_at) all ≡ map (map (λ s. turned_point q f (spot_vector s))) loops)
