-- Plain points of faces: all but those on finitely many cut lines.

use Rattle.std.specs.Prelude.{◌*ℤ◌, Bool, false, not, ◌&&◌, ◌||◌, Option, Some, None}
use Rattle.std.specs.Ordering.{int_eq}
use Rattle.std.specs.List.{list_any}
use Rattle.sb_model.specs.declared.faces.face.FaceKind.{FaceKind}
use Rattle.sb_model.specs.declared.faces.face.FaceKind.TheVariants as kind
use Rattle.sb_fraction.specs.Spots.{Spot, reading}
use Rattle.sb_fraction.specs.Edges.{Edge, is_on}
use Rattle.sb_model.specs.Solids.{Upright}
use Rattle.sb_model.specs.Building.{Building}
use Rattle.sb_model.specs.PlanEdges.{plan_edges, products_of, is_abscissa}
use Rattle.sb_model.specs.Surfaces.Faces.{edge_numbered, is_of_face}
use Rattle.sb_fraction.specs.Directions.{axis_x, direction_of}

-- p lies on a plan edge
abbrev pub is_on_plan_edge : Building → Spot → Bool
is_on_plan_edge m p = list_any (λ e. is_on p e.edge) (plan_edges m)

-- p lies at a height of a prism: of a space, an element or an opening, however far away
abbrev pub is_at_height : Building → Spot → Bool
is_at_height m p =
    list_any (λ q. int_eq p.z (q.prism.z0 *ℤ p.w) || int_eq p.z (q.prism.z1 *ℤ p.w)) (products_of m)

-- p lies at the height of the ground
abbrev pub is_at_ground : Building → Spot → Bool
is_at_ground m p = int_eq p.z (m.ground_height *ℤ p.w)

-- off the cut lines of Bottom and Top: on no plan edge, and x is no abscissa of (1, 0)
abbrev pub is_off_level_cuts : Building → Spot → Bool
is_off_level_cuts m p = not (is_on_plan_edge m p) && not (is_abscissa m axis_x (reading p axis_x))

-- off the cut lines of the side over an edge: p·d is no abscissa of its direction d, and z is
-- neither a height of a prism nor the ground
abbrev pub is_off_side_cuts : Building → Option Edge → Spot → Bool
is_off_side_cuts m None p = false
is_off_side_cuts m (Some e) p =
    not (is_abscissa m (direction_of e) (reading p (direction_of e)))
    && (not (is_at_height m p) && not (is_at_ground m p))

abbrev pub is_off_cuts : Building → Upright → FaceKind → Spot → Bool
is_off_cuts m s kind.Bottom p = is_off_level_cuts m p
is_off_cuts m s kind.Top p = is_off_level_cuts m p
is_off_cuts m s (kind.Side k) p = is_off_side_cuts m (edge_numbered s k) p

-- a plain point of a face: a point of the face off its cut lines
abbrev pub is_plain : Building → Upright → FaceKind → Spot → Bool
is_plain m s k p = is_of_face s k p && is_off_cuts m s k p
