-- Fine cells: the smallest pieces into which the cut lines part the faces of a model. A fine cell
-- lies over one slab, the plan between two neighbouring abscissae of its face's direction.

use Rattle.std.specs.Prelude.{◌≡◌, ℤ, pos, ◌<ℤ◌, ◌≤ℤ◌, Bool, true, false, ◌&&◌, ◌||◌, List}
use Rattle.std.specs.Prelude.{Option, Some, None}
use Rattle.std.specs.Ordering.{int_eq}
use Rattle.std.specs.List.{list_any}
use Rattle.theory_lists.specs.Members.{Stands}
use Rattle.theory_numbers.specs.Arrows.{Arrow, arrow}
use Rattle.theory_numbers.specs.Rationals.{rational, IsRational, IsBelow, IsZeroForm, is_at_most}
use Rattle.theory_plane.specs.Sides.{LineSide, level, clearance}
use Rattle.theory_plane.specs.Points.{FacePoint, IsFacePoint, face_point, is_on_side}
use Rattle.theory_plane.specs.Regions.{Region, is_inside}
use Rattle.sb_fraction.specs.declared.point.Point.{Point}
use Rattle.sb_fraction.specs.Spots.{Spot, IsSpot, Vector}
use Rattle.sb_fraction.specs.Edges.{Edge}
use Rattle.sb_fraction.specs.Crossings.{abscissa_at}
use Rattle.sb_fraction.specs.Directions.{axis_x, direction_of}
use Rattle.sb_fraction.specs.Lines.{line_over}
use Rattle.theory_plans.specs.Inside.{is_in_plan}
use Rattle.sb_model.specs.declared.faces.face.FaceKind.{FaceKind}
use Rattle.sb_model.specs.declared.faces.face.FaceKind.TheVariants as kind
use Rattle.sb_model.specs.declared.patches.patch.Patch.{Patch}
use Rattle.sb_model.specs.declared.products.Space.{Space}
use Rattle.sb_model.specs.Solids.{Upright}
use Rattle.sb_model.specs.Building.{Building}
use Rattle.sb_model.specs.PlanEdges.{PlanEdge, plan_edges, products_of, is_abscissa}
use Rattle.sb_model.specs.Surfaces.Faces.{Surface, edge_numbered, surface_of, space_numbered}
use Rattle.sb_model.specs.Surfaces.Patches.{region_of}

-- ---- over a slab

-- low and high are neighbouring abscissae of the direction d: both are abscissae, and none lies
-- strictly between
pub record AreNeighbours (m : Building) (d : Vector) (low high : Arrow) : Type 0 where
  pub first : is_abscissa m d low ≡ true
  pub last : is_abscissa m d high ≡ true
  pub none : (u : Arrow) → IsRational u → IsBelow low u → IsBelow u high
      → is_abscissa m d u ≡ false

-- the abscissa of a plan point, as a number
abbrev pub number_at : Vector → Point → Arrow
number_at d p = rational (abscissa_at p d) (pos 1)

-- from the first point, at low or before, to the second, at high or after
abbrev pub leads_over : Vector → Arrow → Arrow → Point → Point → Bool
leads_over d low high a b =
    is_at_most (number_at d a) low && is_at_most high (number_at d b)

-- the edge spans the slab: one of its ends lies at low or before, the other at high or after
abbrev pub is_across_slab : Vector → Arrow → Arrow → Edge → Bool
is_across_slab d low high e =
    leads_over d low high e.a e.b || leads_over d low high e.b e.a

-- ---- Bottom and Top

-- (1, 0), the direction of Bottom and Top
abbrev pub way_x : Arrow
way_x = arrow (pos 1) (pos 0)

-- the side is the line of this edge
abbrev pub IsLineOf : LineSide → Edge → Type 0
IsLineOf side e = IsZeroForm (clearance side (line_over way_x e))

-- the side is the line of a plan edge that spans the slab
abbrev pub IsOfSpanning : Building → Arrow → Arrow → LineSide → Type 0
IsOfSpanning m low high side =
    (e : PlanEdge)
    × (Stands e (plan_edges m)
    × ((is_across_slab axis_x low high e.edge ≡ true) × IsLineOf side e.edge))

-- a piece of a slab between the lines of two edges that span it, with no line of a spanning edge
-- between them and the space inside
pub record IsLevelPiece (m : Building) (loops : List (List Point)) (r : Region) : Type 0 where
  pub lower : IsOfSpanning m r.low r.high r.lower
  pub upper : IsOfSpanning m r.low r.high r.upper
  pub undivided : (e : PlanEdge) → Stands e (plan_edges m)
      → is_across_slab axis_x r.low r.high e.edge ≡ true
      → (point : FacePoint) → IsFacePoint point → is_inside r point ≡ true
      → is_on_side (line_over way_x e.edge) point ≡ false
  pub inside : (p : Spot) → IsSpot p → is_inside r (face_point p.x p.y p.w) ≡ true
      → is_in_plan loops p ≡ true

-- ---- sides

-- z is a height of a prism, of a space, an element or an opening, or that of the ground
abbrev pub is_cut_height : Building → ℤ → Bool
is_cut_height m z =
    list_any (λ q. int_eq z q.prism.z0 || int_eq z q.prism.z1) (products_of m)
    || int_eq z m.ground_height

-- a piece of the side over an edge that spans the slab, between two neighbouring heights
pub record IsUprightPiece (m : Building) (s : Upright) (e : Edge) (r : Region) : Type 0 where
  pub from : ℤ
  pub to : ℤ
  pub lower : r.lower ≡ level from
  pub upper : r.upper ≡ level to
  pub spans : is_across_slab (direction_of e) r.low r.high e ≡ true
  pub first : is_cut_height m from ≡ true
  pub last : is_cut_height m to ≡ true
  pub none : (z : ℤ) → from <ℤ z → z <ℤ to → is_cut_height m z ≡ false
  pub above : s.z0 ≤ℤ from
  pub below : to ≤ℤ s.z1

abbrev pub IsPieceOver : Building → Upright → Option Edge → Region → Type 0
IsPieceOver m s None r = ⊥
IsPieceOver m s (Some e) r = IsUprightPiece m s e r

-- ---- fine cells

-- a piece of a face of this kind
abbrev pub IsPieceOf : Building → Upright → FaceKind → Region → Type 0
IsPieceOf m s kind.Bottom r = IsLevelPiece m s.loops r
IsPieceOf m s kind.Top r = IsLevelPiece m s.loops r
IsPieceOf m s (kind.Side k) r = IsPieceOver m s (edge_numbered s k) r

-- a fine cell of a space, on a face that is read along d
pub record IsFineCellOf (m : Building) (d : Vector) (s : Space) (p : Patch) : Type 0 where
  pub surface : Surface
  pub is_surface : surface_of s.prism p.face.kind ≡ Some surface
  pub along : surface.across ≡ d
  pub neighbours : AreNeighbours m d (region_of p).low (region_of p).high
  pub piece : IsPieceOf m s.prism p.face.kind (region_of p)

-- a fine cell of the model, on a face that is read along d
abbrev pub IsFineCell : Building → Vector → Patch → Type 0
IsFineCell m d p = (s : Space) × ((space_numbered m p.face.space ≡ Some s) × IsFineCellOf m d s p)
