-- The IFC text: the input with the lines of the boundaries where the ENDSEC of its data section begins.

use Rattle.std.specs.Prelude.{◌≡◌, ℕ, ◌+◌, ◌++◌, List, [], ◌∷◌, Option, Some, None, take, drop, option_map}
use Rattle.sb_step.specs.Grammar.{File}
use Rattle.sb_step.specs.Numbers.{IsGreatest}
use Rattle.sb_model.specs.declared.boundary.Boundary.{Boundary}
use Rattle.sb_model.specs.declared.products.Space.{Space}
use Rattle.sb_model.specs.Building.{Building}
use Rattle.sb_model.specs.Surfaces.Faces.{Surface, space_numbered, surface_of}
use Rattle.sb_ifc_out.specs.BoundaryLines.{boundary_lines}
use Rattle.sb_ifc_out.specs.Numbers.{line_count, last_line}

-- the lines of a boundary over a face; none where the space has no such face
abbrev pub lines_over : Building → Space → Option Surface → Option ℕ → Option ℕ → ℕ → ℕ → Boundary
    → List ℕ
lines_over m s None parent pair before id b = []
lines_over m s (Some f) parent pair before id b = boundary_lines m s f parent pair before id b

-- the lines of a boundary of a space; none where there is no such space
abbrev pub lines_in : Building → Option Space → Option ℕ → Option ℕ → ℕ → ℕ → Boundary → List ℕ
lines_in m None parent pair before id b = []
lines_in m (Some s) parent pair before id b =
    lines_over m s (surface_of s.prism b.patch.face.kind) parent pair before id b

-- the lines of a boundary; `relation_at` is the line of the relation of each id
unfoldable pub lines_at : Building → (ℕ → ℕ) → ℕ → ℕ → Boundary → List ℕ
lines_at m relation_at before id b =
    lines_in m (space_numbered m b.patch.face.space) (option_map relation_at b.parent)
    (option_map relation_at b.pair) before id b

-- the lines of boundaries, the first of which has this id, from the number after `before` on
abbrev pub lines_from : Building → (ℕ → ℕ) → ℕ → ℕ → List Boundary → List ℕ
lines_from m relation_at before id [] = []
lines_from m relation_at before id (b ∷ bs) =
    lines_at m relation_at before id b
    ++ lines_from m relation_at (before + line_count m b) (id + 1) bs

-- the lines of a list, behind this greatest number of the input
unfoldable pub lines_of : Building → ℕ → List Boundary → List ℕ
lines_of m greatest bs = lines_from m (last_line m greatest bs) greatest 1 bs

-- the text of an input whose data section's ENDSEC begins at this byte
abbrev pub ifc_text_of : List ℕ → ℕ → ℕ → Building → List Boundary → List ℕ
ifc_text_of input data_end greatest m bs =
    take data_end input ++ lines_of m greatest bs ++ drop data_end input

-- the text of an input that is this file
abbrev pub IsIfcText : List ℕ → File → Building → List Boundary → List ℕ → Type 0
IsIfcText input file m bs text =
    (greatest : ℕ) → IsGreatest greatest file.instances
    → text ≡ ifc_text_of input file.data_end greatest m bs
