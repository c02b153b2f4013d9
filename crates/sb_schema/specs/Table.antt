-- A row of the table of entities, and what the parameters of an instance give by it.
use Rattle.std.specs.Prelude.{ℕ, ◌-◌, nat_le, Bool, false, List, [], ◌∷◌, length, slice_get, Option, Some, None, if◌then◌else◌}
use Rattle.std.specs.List.{list_any}
use Rattle.std.specs.Str.{bytes_eq}
use Rattle.sb_step.specs.declared.parameters.param.Param.{Param}
use Rattle.sb_schema.specs.Forms.{Form, Value, value, both}

-- a position, counted from 1, and the form that is read there
abbrev pub Attribute : Type 0
Attribute = ℕ × Form

-- the keywords of an entity, how many attributes it has, and which of them are read
pub record Row : Type 0 where
  pub keywords : List (List ℕ)
  pub count : ℕ
  pub read : List Attribute

abbrev pub row : List (List ℕ) → ℕ → List Attribute → Row
row keywords count read = record { keywords = keywords; count = count; read = read }

-- a value for each attribute that is read
abbrev pub Values : List Attribute → Type 0
Values [] = Unit {0}
Values ((position, form) ∷ later) = Value form × Values later

-- at least so many
abbrev pub has : ℕ → List Param → Option (Unit {0})
has count ps = if nat_le count (length ps) then Some tt else None

-- the values of the attributes that are read, where each is of its form and there are so many
abbrev pub values_at : ℕ → (read : List Attribute) → List Param → Option (Values read)
values_at count [] ps = has count ps
values_at count ((position, form) ∷ later) ps =
    both (value form (slice_get ps (position - 1))) (values_at count later ps)

-- What a row gives of parameters. There may be more of them than it has attributes, and what stands
-- at the positions that are not read does not matter.
abbrev pub values : (row : Row) → List Param → Option (Values row.read)
values row ps = values_at row.count row.read ps

-- an instance has one of the keywords; a complex one has none
abbrev pub is_one_of : List (List ℕ) → Option (List ℕ) → Bool
is_one_of keywords None = false
is_one_of keywords (Some keyword) = list_any (λ k. bytes_eq k keyword) keywords
