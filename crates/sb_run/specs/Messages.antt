-- The line that is said for each answer, and what makes it.
use Rattle.std.specs.Prelude.{ℕ, ◌+◌, ◌/◌, ◌++◌, ◌==◌, Bool, true, not, ◌&&◌, nat_le}
use Rattle.std.specs.Prelude.{List, [], ◌∷◌, codes, decimal, string_bytes, is_some, is_none}
use Rattle.std.specs.Prelude.{if◌then◌else◌}
use Rattle.std.specs.List.{count_by, list_any}
use Rattle.sb_model.specs.declared.boundary.Boundary.{Boundary}
use Rattle.sb_run.specs.declared.answer.Answer.{Answer}
use Rattle.sb_run.specs.declared.answer.Answer.TheVariants.{Done, Usage, ReadFault, TooLong}
use Rattle.sb_run.specs.declared.answer.Answer.TheVariants.{Syntax, Refused, WriteFault, NoMemory}
use Rattle.sb_run.specs.declared.answer.Code.{Code}
use Rattle.sb_run.specs.declared.answer.Code.TheVariants.{Duplicate, Shape, Range, OffGrid, Unbuilt}
use Rattle.sb_run.specs.declared.messages.SaidLine.{SaidLine}
use Rattle.sb_run.specs.declared.messages.SaidLine.TheVariants.{Fixed, Made}

-- the number of spaces whose faces stand in the list: each is counted at its last boundary
abbrev pub spaces_in : List Boundary → ℕ
spaces_in [] = 0
spaces_in (b ∷ bs) =
    (if list_any (λ c. c.patch.face.space == b.patch.face.space) bs then 0 else 1) + spaces_in bs

-- the spaces of the boundaries do not fall, from this number on
abbrev pub have_rising_spaces : ℕ → List Boundary → Bool
have_rising_spaces from [] = true
have_rising_spaces from (b ∷ bs) =
    nat_le from b.patch.face.space && have_rising_spaces b.patch.face.space bs

-- the line that is said of a list: its spaces, its boundaries without a parent, its boundaries with
-- one, and its couples of counterparts
abbrev pub done_line : List Boundary → List ℕ
done_line list =
    codes "spaces " ++ (decimal (spaces_in list)
    ++ (codes ", boundaries " ++ (decimal (count_by (λ b. is_none b.parent) list)
    ++ (codes ", openings " ++ (decimal (count_by (λ b. is_some b.parent) list)
    ++ (codes ", pairs " ++ (decimal (count_by (λ b. is_some b.pair) list / 2) ++ codes "\n")))))))

-- the name of a code
abbrev pub name_of : Code → List ℕ
name_of Duplicate = codes "Duplicate"
name_of Shape = codes "Shape"
name_of Range = codes "Range"
name_of OffGrid = codes "OffGrid"
name_of Unbuilt = codes "Unbuilt"

-- the line that is said for an answer
abbrev pub said_line : Answer → List ℕ
said_line (Done list) = done_line list
said_line Usage = codes "usage: sbgen MODEL --report C\n"
said_line ReadFault = codes "read fault\n"
said_line TooLong = codes "too long\n"
said_line (Syntax place) = codes "syntax at byte " ++ (decimal place ++ codes "\n")
said_line (Refused n code) =
    codes "refused #" ++ (decimal n ++ (codes ": " ++ (name_of code ++ codes "\n")))
said_line WriteFault = codes "write fault\n"
said_line NoMemory = codes "no memory\n"

-- the bytes of a line: one that stands in the program, or one that was made
abbrev pub line_bytes : SaidLine → List ℕ
line_bytes (Fixed text) = text.now
line_bytes (Made text) = string_bytes text

-- the second boundary is of another space than the first, or there is none
abbrev pub ends_space : List Boundary → Bool
ends_space [] = true
ends_space (b ∷ []) = true
ends_space (b ∷ (c ∷ others)) = not (c.patch.face.space == b.patch.face.space)
