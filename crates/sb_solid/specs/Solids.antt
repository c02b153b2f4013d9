-- An extruded solid that is turned, and moved by a shift: out of range, off the grid, or its prism.
use Rattle.std.specs.Prelude.{◌≡◌, ℤ, pos, Bool, true, false, not, ◌&&◌, ◌||◌, int_lt, List, [], ◌∷◌, map, Option, Some, None, Result, Ok, Err, if◌then◌else◌}
use Rattle.std.specs.List.{list_all, flat_map}
use Rattle.std.specs.Ordering.{int_eq}
use Rattle.sb_fraction.specs.declared.point.Point.{Point}
use Rattle.sb_fraction.specs.Spots.{Vector, vector}
use Rattle.theory_plans.specs.Rectangles.{corner, rectangle}
use Rattle.theory_plans.specs.Plans.{is_same_point}
use Rattle.theory_loops.specs.Normal.{normal_loop}
use Rattle.theory_loops.specs.Answers.{are_flat, are_knotted, plan_of}
use Rattle.sb_model.specs.Frames.{sum_of}
use Rattle.sb_model.specs.Solids.{Upright, upright}
use Rattle.sb_solid.specs.Grid.{is_near, is_in_world, nearest_millimetre}
use Rattle.sb_solid.specs.declared.error.SolidError.{SolidError}
use Rattle.sb_solid.specs.declared.error.SolidError.TheVariants as solid_error

-- a solid that is turned and not yet moved, in nanometres: the loops of its profile, the outer one first,
-- the way from its near end to its far end, and where its local z goes
pub record Extruded : Type 0 where
  pub loops : List (List Vector)
  pub way : Vector
  pub along : Vector

-- ---- out of range, and off the grid

-- a point at both ends, moved
abbrev pub ends_of : Vector → Vector → Vector → List Vector
ends_of way shift p = sum_of p shift ∷ sum_of (sum_of p way) shift ∷ []

-- all points of the profile at both ends, moved
abbrev pub world_points : Extruded → Vector → List Vector
world_points e shift = flat_map (λ loop. flat_map (ends_of e.way shift) loop) e.loops

-- each coordinate of a point passes the test
abbrev pub each_coordinate : (ℤ → Bool) → Vector → Bool
each_coordinate test v = test v.x && (test v.y && test v.z)

-- a world coordinate is out of range
abbrev pub is_beyond : Extruded → Vector → Bool
is_beyond e shift = not (list_all (each_coordinate is_in_world) (world_points e shift))

-- a world coordinate lies near no whole millimetre
abbrev pub is_off_grid : Extruded → Vector → Bool
is_off_grid e shift = not (list_all (each_coordinate is_near) (world_points e shift))

-- ---- in millimetres

-- the point in whole millimetres
abbrev pub in_millimetres : Vector → Vector
in_millimetres v = vector (nearest_millimetre v.x) (nearest_millimetre v.y) (nearest_millimetre v.z)

-- its place in the plan, and beside one of the two horizontal axes
abbrev pub in_the_plan : Vector → Point
in_the_plan v = corner v.x v.y

abbrev pub beside_x : Vector → Point
beside_x v = corner v.y v.z

abbrev pub beside_y : Vector → Point
beside_y v = corner v.x v.z

-- an interval, whichever end comes first
abbrev pub lower_of : ℤ → ℤ → ℤ
lower_of a b = if int_lt b a then b else a

abbrev pub upper_of : ℤ → ℤ → ℤ
upper_of a b = if int_lt b a then a else b

-- the same points, in order
abbrev pub are_same_points : List Point → List Point → Bool
are_same_points [] [] = true
are_same_points (a ∷ as_) (b ∷ bs) = is_same_point a b && are_same_points as_ bs
are_same_points _ _ = false

-- the least and the greatest corner of a loop that is a rectangle with level and vertical sides, read in
-- either sense from its least corner
abbrev pub rectangle_in : List Point → Option (Point × Point)
rectangle_in (a ∷ b ∷ c ∷ d ∷ []) =
    if are_same_points (a ∷ b ∷ c ∷ d ∷ []) (rectangle a.x c.x a.y c.y)
    || are_same_points (a ∷ d ∷ c ∷ b ∷ []) (rectangle a.x c.x a.y c.y)
    then Some (a, c)
    else None
rectangle_in _ = None

-- the rectangle of a profile without inner curves
abbrev pub only_rectangle : List (List Point) → Option (Point × Point)
only_rectangle (loop ∷ []) = rectangle_in (normal_loop loop)
only_rectangle _ = None

-- ---- the prism

-- an extrusion up or down: the plan of the loops between the two heights
abbrev pub standing : List (List Point) → ℤ → ℤ → Option Upright
standing loops a b =
    if are_flat loops || (are_knotted loops || int_eq a b)
    then None
    else Some (upright (plan_of loops) (lower_of a b) (upper_of a b))

-- an extrusion to the side along x, and along y: a box, where the profile is one level rectangle
abbrev pub box_along_x : Option (Point × Point) → ℤ → ℤ → Option Upright
box_along_x None a b = None
box_along_x (Some (low, high)) a b =
    if int_eq a b
    then None
    else Some (upright (rectangle (lower_of a b) (upper_of a b) low.x high.x ∷ []) low.y high.y)

abbrev pub box_along_y : Option (Point × Point) → ℤ → ℤ → Option Upright
box_along_y None a b = None
box_along_y (Some (low, high)) a b =
    if int_eq a b
    then None
    else Some (upright (rectangle low.x high.x (lower_of a b) (upper_of a b) ∷ []) low.y high.y)

-- the prism of loops in millimetres, of which a point lies here at the near end and there at the far end,
-- extruded along one of the axes
abbrev pub prism_between : Vector → List (List Vector) → Vector → Vector → Option Upright
prism_between along loops near far =
    if int_eq along.z (pos 0)
    then
    (if int_eq along.x (pos 0)
    then box_along_y (only_rectangle (map (map beside_y) loops)) near.y far.y
    else box_along_x (only_rectangle (map (map beside_x) loops)) near.x far.x)
    else standing (map (map in_the_plan) loops) near.z far.z

-- the loops at the near end and at the far end, moved, in millimetres
abbrev pub near_loops : Extruded → Vector → List (List Vector)
near_loops e shift = map (map (λ p. in_millimetres (sum_of p shift))) e.loops

abbrev pub far_loops : Extruded → Vector → List (List Vector)
far_loops e shift = map (map (λ p. in_millimetres (sum_of (sum_of p e.way) shift))) e.loops

-- the first point, which tells where an end of the extrusion lies along it; the origin where there is none
abbrev pub first_in : List (List Vector) → Vector
first_in ((p ∷ _) ∷ _) = p
first_in _ = vector (pos 0) (pos 0) (pos 0)

-- the prism of a solid that is moved, where its loops give one
abbrev pub prism_at : Extruded → Vector → Option Upright
prism_at e shift =
    prism_between e.along (near_loops e shift) (first_in (near_loops e shift)) (first_in (far_loops e shift))

-- ---- the judgement

-- what is answered of a solid that is moved: the first that holds of Range, OffGrid and Loops, or its prism
abbrev pub JudgesAt : Extruded → Vector → Result Upright SolidError → Type 0
JudgesAt e shift (Err solid_error.Range) = is_beyond e shift ≡ true
JudgesAt e shift (Err solid_error.OffGrid) = (is_beyond e shift ≡ false) × (is_off_grid e shift ≡ true)
JudgesAt e shift (Err solid_error.Loops) =
    (is_beyond e shift ≡ false) × (is_off_grid e shift ≡ false) × (prism_at e shift ≡ None)
JudgesAt e shift (Err solid_error.NoMemory) = Unit {0}
JudgesAt e shift (Ok prism) =
    (is_beyond e shift ≡ false) × (is_off_grid e shift ≡ false) × (prism_at e shift ≡ Some prism)
