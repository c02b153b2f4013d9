-- What a reference leads to, where an instance of one row of the table of entities is wanted.
use Rattle.std.specs.Prelude.{◌≡◌, ℕ, Bool, true, false, List, [], ◌∷◌, Option, Some, None}
use Rattle.sb_step.specs.Indexed.{Indexed}
use Rattle.sb_schema.specs.Table.{Row, Values}
use Rattle.sb_schema.specs.Views.{IsMissing, IsOther, Gives}
use Rattle.sb_place.specs.declared.sight.Seen.{Seen}
use Rattle.sb_place.specs.declared.sight.Seen.TheVariants as seen

-- What is seen of the instance of this number by the row: that there is none, that it is not of its
-- row, that it is of another entity, or what is shown of its attributes.
abbrev pub Sees : (row : Row) → Indexed → ℕ → {V : Type 0} → (V → Type 0) → Seen V → Type 0
Sees row indexed n shows (seen.Absent m) = (m ≡ n) × IsMissing indexed n
Sees row indexed n shows (seen.Broken m) = (m ≡ n) × Gives row indexed n None
Sees row indexed n shows seen.Other = IsOther row.keywords indexed n
Sees row indexed n shows (seen.Shown v) = shows v

-- and what is shown are the attributes that the row reads
abbrev pub IsSeen : (row : Row) → Indexed → ℕ → {V : Type 0} → (V → Values row.read) → Seen V → Type 0
IsSeen row indexed n fields s = Sees row indexed n (λ v. Gives row indexed n (Some (fields v))) s

-- the number that no instance has, where there is none
abbrev pub absent_at : {V : Type 0} → Seen V → List ℕ
absent_at (seen.Absent n) = n ∷ []
absent_at _ = []

-- the number of the instance that is not of its row
abbrev pub broken_at : {V : Type 0} → Seen V → List ℕ
broken_at (seen.Broken n) = n ∷ []
broken_at _ = []

-- an instance of another entity
abbrev pub is_other : {V : Type 0} → Seen V → Bool
is_other seen.Other = true
is_other _ = false

-- the same of what may be left out
abbrev pub absent_where : {V : Type 0} → Option (Seen V) → List ℕ
absent_where None = []
absent_where (Some s) = absent_at s

abbrev pub broken_where : {V : Type 0} → Option (Seen V) → List ℕ
broken_where None = []
broken_where (Some s) = broken_at s

abbrev pub is_other_where : {V : Type 0} → Option (Seen V) → Bool
is_other_where None = false
is_other_where (Some s) = is_other s
