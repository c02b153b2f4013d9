-- The corners of patches, in the order in which they are listed.

use Rattle.std.specs.Prelude.{ℤ, ◌+ℤ◌, ◌-ℤ◌, ◌*ℤ◌, Bool, ◌&&◌, Option, Some, None}
use Rattle.std.specs.Prelude.{if◌then◌else◌}
use Rattle.std.specs.Ordering.{int_eq}
use Rattle.theory_numbers.specs.Fractions.{Ratio, reduced, whole}
use Rattle.theory_plane.specs.Sides.{LineSide}
use Rattle.sb_model.specs.declared.patches.corner.Corner.{Corner}
use Rattle.sb_model.specs.declared.patches.corner.Corners.{Corners}
use Rattle.sb_model.specs.declared.patches.corner.Corners.TheVariants.{Three, Four}
use Rattle.sb_model.specs.declared.faces.face.FaceKind.{FaceKind}
use Rattle.sb_model.specs.declared.faces.face.FaceKind.TheVariants as kind
use Rattle.sb_model.specs.declared.faces.face.Side.{Side}
use Rattle.sb_model.specs.declared.patches.patch.Patch.{Patch}
use Rattle.sb_model.specs.declared.products.Space.{Space}
use Rattle.sb_fraction.specs.Spots.{Vector, inner}
use Rattle.sb_fraction.specs.Edges.{Edge}
use Rattle.sb_model.specs.Surfaces.Sides.{line_of}
use Rattle.sb_model.specs.Building.{Building}
use Rattle.sb_model.specs.Surfaces.Faces.{edge_numbered, space_numbered}
use Rattle.sb_fraction.specs.Directions.{direction_of, runs_along, offset_of}

-- the point of a level face at the height z and at u, on this line
unfoldable pub level_corner : ℤ → Ratio → LineSide → Corner
level_corner z u l = record {
  x = u;
  y = reduced ((l.dy *ℤ u.num) +ℤ (l.off *ℤ u.den)) (l.dx *ℤ u.den);
  z = whole z;
}

-- the point at u along a direction d on the line with this offset, p·(-dy, dx), at the height z:
-- (u·d + offset·(-dy, dx))/(d·d)
unfoldable pub corner_along : Vector → ℤ → Ratio → ℤ → Corner
corner_along d offset u z =
    let across = offset *ℤ u.den in
    let scale = inner d d *ℤ u.den in
    record {
      x = reduced ((u.num *ℤ d.x) -ℤ (across *ℤ d.y)) scale;
      y = reduced ((u.num *ℤ d.y) +ℤ (across *ℤ d.x)) scale;
      z = whole z;
    }

-- the corners of a patch: at the low and at the high end, on the lower and on the upper side
pub record Ends : Type 0 where
  pub low_lower : Corner
  pub low_upper : Corner
  pub high_lower : Corner
  pub high_upper : Corner

-- those of a patch, where `corner u side` is the point at u on a side
abbrev pub ends_by : (Ratio → Side → Corner) → Patch → Ends
ends_by corner p = record {
  low_lower = corner p.low p.lower;
  low_upper = corner p.low p.upper;
  high_lower = corner p.high p.lower;
  high_upper = corner p.high p.upper;
}

abbrev pub is_same : Ratio → Ratio → Bool
is_same a b = int_eq a.num b.num && int_eq a.den b.den

-- two corners are one point
abbrev pub is_same_corner : Corner → Corner → Bool
is_same_corner a b = is_same a.x b.x && (is_same a.y b.y && is_same a.z b.z)

-- four corners, of which one that is equal to the one before it is left out. The two corners at the
-- low end and the two at the high end stand side by side, and no others are ever equal
abbrev pub listed : Corner → Corner → Corner → Corner → Corners
listed a b c d =
    if is_same_corner a b
    then Three a c d
    else (if is_same_corner c d then Three a b c else Four a b c d)

-- forward: down along the low end, and up along the high end
abbrev pub forward : Ends → Corners
forward e = listed e.low_upper e.low_lower e.high_lower e.high_upper

-- backward: down along the high end, and up along the low end
abbrev pub backward : Ends → Corners
backward e = listed e.high_upper e.high_lower e.low_lower e.low_upper

-- those of a patch of a side face over the line of this direction and offset: forward where its edge
-- runs along the direction
abbrev pub corners_along : Vector → ℤ → Bool → Patch → Option Corners
corners_along d offset along p =
    let ends = ends_by (λ u side. corner_along d offset u (line_of side).off) p in
    if along then Some (forward ends) else Some (backward ends)

-- those of a patch of the side face over this edge
abbrev pub side_corners : Option Edge → Patch → Option Corners
side_corners None p = None
side_corners (Some e) p = corners_along (direction_of e) (offset_of e) (runs_along e) p

-- those of a patch of a face of this space
abbrev pub corners_of_kind : Space → FaceKind → Patch → Option Corners
corners_of_kind s kind.Bottom p =
    Some (backward (ends_by (λ u side. level_corner s.prism.z0 u (line_of side)) p))
corners_of_kind s kind.Top p =
    Some (forward (ends_by (λ u side. level_corner s.prism.z1 u (line_of side)) p))
corners_of_kind s (kind.Side k) p = side_corners (edge_numbered s.prism k) p

abbrev pub corners_in : Option Space → Patch → Option Corners
corners_in None p = None
corners_in (Some s) p = corners_of_kind s p.face.kind p

-- the corners of a patch, seen from outside the space counterclockwise; none where its face is not
-- of the model
abbrev pub corners_of : Building → Patch → Option Corners
corners_of m p = corners_in (space_numbered m p.face.space) p
