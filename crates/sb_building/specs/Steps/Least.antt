-- The least of some conditions of products: that of the first code, at its lowest number.
use Rattle.std.specs.Prelude.{◌≡◌, ℕ, ◌<◌, ◌≤◌, ◌⊎◌, nat_lt, nat_eq, ◌&&◌, ◌||◌, List, [], Option, Some, None, if◌then◌else◌}
use Rattle.theory_lists.specs.Members.{Stands}
use Rattle.sb_profile.specs.declared.defects.Code.{Code}
use Rattle.sb_profile.specs.declared.defects.Code.TheVariants as code
use Rattle.sb_profile.specs.declared.defects.Defect.{Defect}

-- how many codes come before
abbrev pub rank : Code → ℕ
rank code.Schema = 0
rank code.Units = 1
rank code.Building = 2
rank code.Class = 3
rank code.Fields = 4
rank code.Missing = 5
rank code.Chain = 6
rank code.Turned = 7
rank code.Shape = 8
rank code.Range = 9
rank code.OffGrid = 10
rank code.Loops = 11
rank code.Layers = 12

-- a number and a code come before another, or are the same
abbrev pub IsBefore : ℕ → Code → ℕ → Code → Type 0
IsBefore m j n k = (rank j < rank k) ⊎ ((j ≡ k) × (m ≤ n))

-- the defect of the earlier code, of one code that of the lower number
abbrev pub lesser : Defect → Defect → Defect
lesser one other =
    if nat_lt (rank other.code) (rank one.code)
    || (nat_eq (rank other.code) (rank one.code) && nat_lt other.number one.number)
    then other
    else one

-- of the conditions that were seen this is the least, if there is one
abbrev pub IsLeastOf : List (ℕ × Code) → Option Defect → Type 0
IsLeastOf seen None = seen ≡ []
IsLeastOf seen (Some d) =
    Stands (d.number, d.code) seen
    × ((n : ℕ) (k : Code) → Stands (n, k) seen → IsBefore d.number d.code n k)
