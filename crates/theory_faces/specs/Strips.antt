-- Strips: the patches of cells, marked with their faces and walks; cells side by side become runs.

use Rattle.std.specs.Prelude.{Bool, true, false, ◌&&◌, ◌==◌, List, [], ◌∷◌, ◌++◌, map}
use Rattle.std.specs.Prelude.{if◌then◌else◌}
use Rattle.std.specs.Ordering.{int_eq}
use Rattle.theory_numbers.specs.Fractions.{Ratio}
use Rattle.theory_numbers.specs.Arrows.{Arrow}
use Rattle.theory_plane.specs.Regions.{Region}
use Rattle.theory_patches.specs.Marked.{MarkedPatch}
use Rattle.theory_joining.specs.Cells.{is_one_run, raised}
use Rattle.sb_model.specs.declared.boundary.Cell.{Cell}
use Rattle.sb_model.specs.declared.faces.face.Face.{Face}
use Rattle.sb_model.specs.declared.walk.End.{End}
use Rattle.sb_model.specs.declared.walk.End.TheVariants as end
use Rattle.sb_model.specs.declared.walk.Item.{Item}
use Rattle.sb_model.specs.declared.walk.Walk.{Walk}
use Rattle.sb_model.specs.Surfaces.Patches.{region_of, is_same_kind}

-- ---- marks

-- the face that a patch stands on, and its walk
pub record Mark : Type 0 where
  pub face : Face
  pub walk : Walk

abbrev pub is_same_ratio : Ratio → Ratio → Bool
is_same_ratio r s = int_eq r.num s.num && int_eq r.den s.den

abbrev pub is_same_item : Item → Item → Bool
is_same_item i j =
    (i.element == j.element) && ((i.layer == j.layer) && is_same_ratio i.thickness j.thickness)

abbrev pub are_same_items : List Item → List Item → Bool
are_same_items [] [] = true
are_same_items [] (j ∷ js) = false
are_same_items (i ∷ is) [] = false
are_same_items (i ∷ is) (j ∷ js) = is_same_item i j && are_same_items is js

abbrev pub is_same_end : End → End → Bool
is_same_end (end.Space m) (end.Space n) = m == n
is_same_end end.Outside end.Outside = true
is_same_end end.Earth end.Earth = true
is_same_end (end.Solid m) (end.Solid n) = m == n
is_same_end _ _ = false

-- equal items, with their exact thickness, equal depth and equal end
abbrev pub is_same_walk : Walk → Walk → Bool
is_same_walk v w =
    are_same_items v.items w.items && (int_eq v.depth w.depth && is_same_end v.end w.end)

abbrev pub is_same_face : Face → Face → Bool
is_same_face f g = (f.space == g.space) && is_same_kind f.kind g.kind

abbrev pub is_same_mark : Mark → Mark → Bool
is_same_mark m n = is_same_face m.face n.face && is_same_walk m.walk n.walk

-- ---- strips

-- a patch of a face with its walk
abbrev pub Strip : Type 0
Strip = MarkedPatch Mark

-- the strip of a cell
abbrev pub strip_of : Cell → Strip
strip_of c =
    record {
      region = region_of c.patch;
      mark = record { face = c.patch.face; walk = c.walk };
    }

abbrev pub strips_of : List Cell → List Strip
strips_of cells = map strip_of cells

-- ---- runs

abbrev pub is_same_number : Arrow → Arrow → Bool
is_same_number u w = int_eq u.x w.x && int_eq u.y w.y

-- both begin at one abscissa and end at one
abbrev pub have_same_ends : Region → Region → Bool
have_same_ends p q = is_same_number p.low q.low && is_same_number p.high q.high

-- the second lies on the first, over the same slab, and both have one face and one walk
abbrev pub is_raised_by : Strip → Strip → Bool
is_raised_by c d = have_same_ends c.region d.region && is_one_run is_same_mark c d

-- a strip is laid under the runs above it
abbrev pub lay : Strip → List Strip → List Strip
lay c [] = c ∷ []
lay c (r ∷ rs) = if is_raised_by c r then raised c r ∷ rs else c ∷ r ∷ rs

-- the runs of strips that are listed from below
abbrev pub runs_over : List Strip → List Strip
runs_over [] = []
runs_over (c ∷ cs) = lay c (runs_over cs)

-- the runs of several lists of strips
abbrev pub all_runs : List (List Strip) → List Strip
all_runs [] = []
all_runs (strips ∷ lists) = runs_over strips ++ all_runs lists

-- the runs of the cells of several calls
abbrev pub runs_of_calls : List (List Cell) → List Strip
runs_of_calls calls = all_runs (map strips_of calls)
