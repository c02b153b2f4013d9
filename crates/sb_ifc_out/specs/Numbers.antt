-- The numbers of the lines: those of each boundary follow those of the one before it.

use Rattle.std.specs.Prelude.{ℕ, zero, suc, ◌+◌, List, [], ◌∷◌, Option, Some, None, length}
use Rattle.sb_model.specs.declared.boundary.Boundary.{Boundary}
use Rattle.sb_model.specs.declared.patches.corner.Corner.{Corner}
use Rattle.sb_model.specs.declared.patches.corner.Corners.{Corners}
use Rattle.sb_model.specs.declared.patches.corner.Corners.TheVariants.{Three, Four}
use Rattle.sb_model.specs.declared.walk.End.{End}
use Rattle.sb_model.specs.declared.walk.End.TheVariants as end
use Rattle.sb_model.specs.declared.walk.Item.{Item}
use Rattle.sb_model.specs.Building.{Building}
use Rattle.sb_model.specs.Surfaces.Corners.{corners_of}

-- the element of the first item
abbrev pub first_element : List Item → Option ℕ
first_element [] = None
first_element (i ∷ is) = Some i.element

-- the element of a solid end
abbrev pub end_element : End → Option ℕ
end_element (end.Solid n) = Some n
end_element (end.Space n) = None
end_element end.Outside = None
end_element end.Earth = None

-- the first of the two that is there
abbrev pub first_there : Option ℕ → Option ℕ → Option ℕ
first_there (Some n) other = Some n
first_there None other = other

-- the element that a boundary is related to: the key of a child, else the element of the first item, else
-- that of a solid end; none where a virtual element stands in for it
abbrev pub element_of : Boundary → Option ℕ
element_of b = first_there b.key (first_there (first_element b.walk.items) (end_element b.walk.end))

-- how many lines stand for the element: one virtual element where there is none
abbrev pub virtual_lines : Option ℕ → ℕ
virtual_lines None = 1
virtual_lines (Some n) = 0

-- the corners of a patch as a list
abbrev pub corners_listed : Option Corners → List Corner
corners_listed None = []
corners_listed (Some (Three a b c)) = a ∷ b ∷ c ∷ []
corners_listed (Some (Four a b c d)) = a ∷ b ∷ c ∷ d ∷ []

abbrev pub corners_at : Building → Boundary → List Corner
corners_at m b = corners_listed (corners_of m b.patch)

-- how many lines of a boundary stand between its corners and what stands for its element
abbrev pub surface_lines : ℕ
surface_lines = 8

-- how many lines a boundary has: one for each corner, those of its surface, a virtual element where it
-- needs one, and its relation
abbrev pub line_count : Building → Boundary → ℕ
line_count m b = length (corners_at m b) + surface_lines + virtual_lines (element_of b) + 1

-- the number of the last line of so many boundaries, where `before` is that of the line before them: each
-- ends with its relation
abbrev pub last_line : Building → ℕ → List Boundary → ℕ → ℕ
last_line m before bs zero = before
last_line m before [] (suc count) = before
last_line m before (b ∷ bs) (suc count) = last_line m (before + line_count m b) bs count
