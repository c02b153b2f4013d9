-- The sheet of a face over a slab: the abscissae of its direction, and the lines that cut it there.

use Rattle.std.specs.Prelude.{List, [], ◌∷◌, if◌then◌else◌}
use Rattle.theory_numbers.specs.Arrows.{Arrow}
use Rattle.theory_numbers.specs.Rationals.{IsBelow}
use Rattle.theory_plane.specs.Sides.{LineSide, level}
use Rattle.theory_plane.specs.Points.{abscissa_of}
use Rattle.theory_patches.specs.Sheets.{Sheet}
use Rattle.sb_fraction.specs.Spots.{Spot, Vector}
use Rattle.sb_fraction.specs.Directions.{axis_x}
use Rattle.sb_fraction.specs.Lines.{line_over}
use Rattle.sb_model.specs.declared.faces.face.FaceKind.{FaceKind}
use Rattle.sb_model.specs.declared.faces.face.FaceKind.TheVariants as kind
use Rattle.sb_model.specs.Building.{Building}
use Rattle.sb_model.specs.PlanEdges.{Product, PlanEdge, plan_edges, products_of}
use Rattle.sb_model.specs.Surfaces.Faces.{Surface, on_face}
use Rattle.sb_model.specs.Surfaces.FineCells.{way_x, is_across_slab}
use Rattle.theory_models.specs.Abscissae.{abscissae_of}

-- the lines of the plan edges that span a slab of (1, 0)
abbrev pub lines_across : Arrow → Arrow → List PlanEdge → List LineSide
lines_across low high [] = []
lines_across low high (e ∷ es) =
    if is_across_slab axis_x low high e.edge
    then line_over way_x e.edge ∷ lines_across low high es
    else lines_across low high es

-- the two heights of each prism
abbrev pub heights_of : List Product → List LineSide
heights_of [] = []
heights_of (q ∷ qs) = level q.prism.z0 ∷ level q.prism.z1 ∷ heights_of qs

-- what cuts a face of this kind over a slab: Bottom and Top the lines of the plan edges that span
-- the slab, a side all heights and the ground
abbrev pub cuts_over : Building → FaceKind → Arrow → Arrow → List LineSide
cuts_over m kind.Bottom low high = lines_across low high (plan_edges m)
cuts_over m kind.Top low high = lines_across low high (plan_edges m)
cuts_over m (kind.Side k) low high = level m.ground_height ∷ heights_of (products_of m)

-- the sheet of a face of this kind over a slab of its direction
abbrev pub sheet_over : Building → FaceKind → Vector → Arrow → Arrow → Sheet
sheet_over m k d low high =
    record { abscissae = abscissae_of m d; cuts = cuts_over m k low high }

-- the abscissae of a direction alone
abbrev pub sheet_along : Building → Vector → Sheet
sheet_along m d = record { abscissae = abscissae_of m d; cuts = [] }

-- the point of a face lies strictly inside the slab
pub record IsOverSlab (f : Surface) (low high : Arrow) (p : Spot) : Type 0 where
  pub after : IsBelow low (abscissa_of (on_face f p))
  pub before : IsBelow (abscissa_of (on_face f p)) high
