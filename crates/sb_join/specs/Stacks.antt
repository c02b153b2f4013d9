-- Stacks of cells: the last of a vector is the top, and strips are listed from the top.

use Rattle.std.specs.Prelude.{List, [], ◌∷◌, reverse}
use Rattle.sb_model.specs.declared.boundary.Cell.{Cell}
use Rattle.theory_faces.specs.Strips.{Strip, strips_of, lay}
use Rattle.theory_faces.specs.Chains.{lay_before}

-- the strips of a stack, from its top
abbrev pub from_top : List Cell → List Strip
from_top cells = strips_of (reverse cells)

-- strips are laid under a stack, the last of them first
abbrev pub lay_all : List Strip → List Strip → List Strip
lay_all [] above = above
lay_all (c ∷ cs) above = lay c (lay_all cs above)

-- runs are put before a stack, the last of them first
abbrev pub put_all : List Strip → List Strip → List Strip
put_all [] after = after
put_all (p ∷ ps) after = lay_before p (put_all ps after)
