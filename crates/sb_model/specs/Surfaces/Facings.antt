-- Where the faces of a model look: their outward normals, and the directions along which u is read.

use Rattle.std.specs.Prelude.{pos, neg_ℤ, Bool, Option, option_map, option_and_then, if◌then◌else◌}
use Rattle.sb_model.specs.declared.faces.face.Face.{Face}
use Rattle.sb_fraction.specs.Spots.{Vector, vector}
use Rattle.sb_model.specs.Building.{Building}
use Rattle.sb_model.specs.Surfaces.Faces.{Surface, surface_of, space_numbered}

-- the face of a model with this name; none where there is no such face
abbrev pub surface_named : Building → Face → Option Surface
surface_named m f = option_and_then (λ s. surface_of s.prism f.kind) (space_numbered m f.space)

-- its outward normal
abbrev pub normal_of : Building → Face → Option Vector
normal_of m f = option_map (λ s. s.normal) (surface_named m f)

-- the direction along which its u is read
abbrev pub across_of : Building → Face → Option Vector
across_of m f = option_map (λ s. s.across) (surface_named m f)

-- what lies on the right of an edge that runs along a direction, or against it: (dy, -dx, 0) or
-- (-dy, dx, 0)
abbrev pub right_of : Vector → Bool → Vector
right_of d is_along =
    if is_along then vector d.y (neg_ℤ d.x) (pos 0) else vector (neg_ℤ d.y) d.x (pos 0)
