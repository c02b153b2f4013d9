-- What single steps promise.
use Rattle.std.specs.Prelude.{◌≡◌, ℤ, Bool, true, false, ◌&&◌, List, map, Option, Some, None}
use Rattle.std.specs.List.{flat_map}
use Rattle.sb_fraction.specs.Spots.{Vector, vector}
use Rattle.sb_model.specs.Frames.{vector_of, are_framed}
use Rattle.sb_solid.specs.declared.points.sizes.Lying.{Lying}
use Rattle.sb_solid.specs.declared.points.sizes.Wide.{Wide}
use Rattle.sb_solid.specs.Sizes.{is_wide}
use Rattle.sb_solid.specs.declared.points.axes.Coordinate.{Coordinate}
use Rattle.sb_solid.specs.declared.points.axes.Coordinate.TheVariants as coordinate

-- the point that the code keeps
abbrev pub vector_at : Lying → Vector
vector_at l = vector l.x l.y l.z

abbrev pub IsLyingAt : List ℤ → Option Lying → Type 0
IsLyingAt p None = are_framed p ≡ false
IsLyingAt p (Some l) = (are_framed p ≡ true) × (vector_at l ≡ vector_of p)

abbrev pub wide_at : Wide → Vector
wide_at w = vector w.x w.y w.z

abbrev pub are_wide : Vector → Bool
are_wide v = is_wide v.x && (is_wide v.y && is_wide v.z)

abbrev pub IsWideAt : List ℤ → Option Wide → Type 0
IsWideAt p None = are_wide (vector_of p) ≡ false
IsWideAt p (Some w) = (are_wide (vector_of p) ≡ true) × (wide_at w ≡ vector_of p)

-- a coordinate of a point
abbrev pub coordinate_of : Coordinate → Vector → ℤ
coordinate_of coordinate.X v = v.x
coordinate_of coordinate.Y v = v.y
coordinate_of coordinate.Z v = v.z

-- those of points
abbrev pub coordinates : Coordinate → List Lying → List ℤ
coordinates c points = map (λ l. coordinate_of c (vector_at l)) points

-- and of loops
abbrev pub numbers_along : Coordinate → List (List Lying) → List ℤ
numbers_along c loops = flat_map (coordinates c) loops
