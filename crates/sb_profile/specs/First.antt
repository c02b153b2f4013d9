-- The first defect: that of the first code that occurs, at the lowest number at which it does.
use Rattle.std.specs.Prelude.{◌≡◌, ℕ, ◌⊎◌, List, [], ◌∷◌, ◌++◌, Option, Some, None}
use Rattle.sb_step.specs.Indexed.{Indexed}
use Rattle.sb_profile.specs.declared.defects.Code.{Code}
use Rattle.sb_profile.specs.declared.defects.Defect.{Defect}
use Rattle.sb_profile.specs.Contents.{Contents, Says}
use Rattle.sb_profile.specs.Lowest.{IsLowest}
use Rattle.sb_profile.specs.Defects.{Occurs}

-- the defect of this code at this number
abbrev pub defect_at : ℕ → Code → Defect
defect_at n code = record { number = n; code = code }

-- of these codes, in this order, this is the first defect, if there is one
abbrev pub IsFirst : (Code → ℕ → Type 0) → List Code → Option Defect → Type 0
IsFirst Has [] found = found ≡ None
IsFirst Has (code ∷ later) found =
    ((n : ℕ) × (IsLowest (Has code) n × (found ≡ Some (defect_at n code))))
    ⊎ (((n : ℕ) → Has code n → ⊥) × IsFirst Has later found)

-- the same of a file, by what it says
abbrev pub IsFirstDefect : Indexed → List Code → Option Defect → Type 0
IsFirstDefect indexed codes found =
    (c : Contents) → Says indexed c → IsFirst (Occurs c) codes found

-- Laws

-- a file that says something has one first defect, or none
abbrev pub OneFirstDefect : Type 0
OneFirstDefect =
    (indexed : Indexed) (c : Contents) (codes : List Code) (one two : Option Defect)
    → Says indexed c → IsFirstDefect indexed codes one → IsFirstDefect indexed codes two
    → one ≡ two

-- one of the earlier codes is the first, whatever codes follow
abbrev pub EarlierCodesComeFirst : Type 0
EarlierCodesComeFirst =
    (indexed : Indexed) (codes later : List Code) (defect : Defect)
    → IsFirstDefect indexed codes (Some defect)
    → IsFirstDefect indexed (codes ++ later) (Some defect)

-- where none of them occurs, the first of those that follow is
abbrev pub LaterCodesFollow : Type 0
LaterCodesFollow =
    (indexed : Indexed) (codes later : List Code) (found : Option Defect)
    → IsFirstDefect indexed codes None → IsFirstDefect indexed later found
    → IsFirstDefect indexed (codes ++ later) found
