-- The faces of spaces: the coordinates u and v, the outward normal and its unit.

use Rattle.std.specs.Prelude.{ℕ, ℤ, neg_ℤ, ◌+ℤ◌, ◌*ℤ◌, ◌==◌, Bool, false, ◌&&◌, Option, Some, None}
use Rattle.std.specs.Prelude.{slice_get, is_some}
use Rattle.std.specs.Ordering.{int_eq}
use Rattle.std.specs.List.{find}
use Rattle.theory_plane.specs.Points.{FacePoint, face_point}
use Rattle.sb_fraction.specs.Spots.{Vector, inner, opposite, Spot, times_w}
use Rattle.sb_fraction.specs.Edges.{Edge, is_on}
use Rattle.sb_fraction.specs.Directions.{axis_x, axis_y, axis_z, direction_of, normal_over}
use Rattle.theory_plans.specs.LoopEdges.{edges_of}
use Rattle.theory_plans.specs.Inside.{is_in_plan}
use Rattle.sb_model.specs.declared.faces.face.Face.{Face}
use Rattle.sb_model.specs.declared.faces.face.FaceKind.{FaceKind}
use Rattle.sb_model.specs.declared.faces.face.FaceKind.TheVariants as kind
use Rattle.sb_model.specs.declared.products.Space.{Space}
use Rattle.sb_model.specs.Solids.{Upright, is_between_heights}
use Rattle.sb_model.specs.Building.{Building}

-- a face of a space: u is read along `across`, v along `up`, and all points have the same
-- `position` p·n along the outward normal
pub record Surface : Type 0 where
  pub across : Vector
  pub up : Vector
  pub normal : Vector
  pub position : ℤ

-- the face below a space: u is x, v is y
abbrev pub bottom_of : Upright → Surface
bottom_of s = record {
  across = axis_x;
  up = axis_y;
  normal = opposite axis_z;
  position = neg_ℤ s.z0;
}

-- the face above it
abbrev pub top_of : Upright → Surface
top_of s = record { across = axis_x; up = axis_y; normal = axis_z; position = s.z1 }

-- the side over an edge: u is p·d for the edge's direction d, v is z
abbrev pub side_over : Edge → Surface
side_over e = record {
  across = direction_of e;
  up = axis_z;
  normal = normal_over e;
  position = (e.a.x *ℤ (normal_over e).x) +ℤ (e.a.y *ℤ (normal_over e).y);
}

-- edge k of a prism's plan, counted through all loops; none where there is no such edge
abbrev pub edge_numbered : Upright → ℕ → Option Edge
edge_numbered s k = slice_get (edges_of s.loops) k

abbrev pub side_of : Option Edge → Option Surface
side_of None = None
side_of (Some e) = Some (side_over e)

-- the face of a prism of this kind; none where there is no such edge
abbrev pub surface_of : Upright → FaceKind → Option Surface
surface_of s kind.Bottom = Some (bottom_of s)
surface_of s kind.Top = Some (top_of s)
surface_of s (kind.Side k) = side_of (edge_numbered s k)

-- the unit of a face, n·n: 1 for Bottom, Top and sides along x or y
abbrev pub unit_of : Surface → ℤ
unit_of f = inner f.normal f.normal

-- the point (u, v) of a face
abbrev pub on_face : Surface → Spot → FacePoint
on_face f p = face_point (times_w p f.across) (times_w p f.up) p.w

-- p lies in the plane of the face
abbrev pub is_in_plane : Surface → Spot → Bool
is_in_plane f p = int_eq (times_w p f.normal) (f.position *ℤ p.w)

abbrev pub is_of_side : Upright → Option Edge → Spot → Bool
is_of_side s None p = false
is_of_side s (Some e) p = is_on p e && is_between_heights s.z0 s.z1 p

-- p is a point of the face: of Bottom or Top inside the loops at the lower or the upper height, of
-- a side on its edge and strictly between the heights
abbrev pub is_of_face : Upright → FaceKind → Spot → Bool
is_of_face s kind.Bottom p = is_in_plan s.loops p && int_eq p.z (s.z0 *ℤ p.w)
is_of_face s kind.Top p = is_in_plan s.loops p && int_eq p.z (s.z1 *ℤ p.w)
is_of_face s (kind.Side k) p = is_of_side s (edge_numbered s k) p

-- the space with this number
abbrev pub space_numbered : Building → ℕ → Option Space
space_numbered m n = find (λ s. s.number == n) m.spaces

-- the space has a face of this kind
abbrev pub has_face : Option Space → FaceKind → Bool
has_face None k = false
has_face (Some s) k = is_some (surface_of s.prism k)

-- the face is of the model
abbrev pub is_face_of : Building → Face → Bool
is_face_of m f = has_face (space_numbered m f.space) f.kind
