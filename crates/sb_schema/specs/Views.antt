-- What a view answers, by the row of its entity.
use Rattle.std.specs.Prelude.{◌≡◌, ◌≢◌, ◌↔◌, ℕ, nat_eq, true, false, List, Option, Some, None, Result, Ok, Err}
use Rattle.std.specs.Map.{lookup}
use Rattle.sb_step.specs.declared.parameters.param.Param.{Param}
use Rattle.sb_step.specs.declared.step_file.records.Record.{Record}
use Rattle.sb_step.specs.Indexed.{Indexed}
use Rattle.sb_step.specs.Records.Spans.{keyword_of}
use Rattle.sb_step.specs.Params.Parameters.{HasParameters}
use Rattle.sb_schema.specs.declared.error.ViewError.{ViewError}
use Rattle.sb_schema.specs.declared.error.ViewError.TheVariants as view_error
use Rattle.sb_schema.specs.Table.{Row, Values, values, is_one_of}

-- whether a view takes memory
pub data Taking : Type 0 where
  with_memory : Taking
  without_memory : Taking

-- there was memory enough for an answer
abbrev pub HasMemory : Taking → {V : Type 0} → Result V ViewError → Type 0
HasMemory with_memory result = result ≢ Err view_error.NoMemory
HasMemory without_memory result = Unit {0}

-- and where it takes none, there was
abbrev pub NeedsNoMemory : Taking → {V : Type 0} → Result V ViewError → Type 0
NeedsNoMemory with_memory result = Unit {0}
NeedsNoMemory without_memory result = result ≢ Err view_error.NoMemory

-- no instance has the number
abbrev pub IsMissing : Indexed → ℕ → Type 0
IsMissing indexed n = lookup (nat_eq n) indexed.file.instances ≡ None

-- an instance has it, whose keyword is none of these, or which is complex
pub record IsOther (keywords : List (List ℕ)) (indexed : Indexed) (n : ℕ) : Type 0 where
  pub record_of : Record
  pub found : lookup (nat_eq n) indexed.file.instances ≡ Some record_of
  pub keyword : is_one_of keywords (keyword_of indexed n) ≡ false

-- an instance has it whose keyword is of the row, and by the row its parameters give this
pub record Gives (row : Row) (indexed : Indexed) (n : ℕ) (given : Option (Values row.read))
    : Type 0 where
  pub keyword : is_one_of row.keywords (keyword_of indexed n) ≡ true
  pub parameters : List Param
  pub are : HasParameters indexed n parameters
  pub give : values row parameters ≡ given

-- the values of a view, field by field
abbrev pub seen : {V W : Type 0} → (V → W) → Result V ViewError → Result W ViewError
seen fields (Ok view) = Ok (fields view)
seen fields (Err e) = Err e

-- What is answered of the instance of the number. The four answers exclude each other, and want of
-- memory may come in the place of any.
pub record Views (taking : Taking) (row : Row) {V : Type 0} (fields : V → Values row.read)
    (indexed : Indexed) (n : ℕ) (result : Result V ViewError) : Type 0 where
  pub missing : (m : ℕ) → HasMemory taking result → (result ≡ Err (view_error.Missing m))
      ↔ ((m ≡ n) × IsMissing indexed n)
  pub other : (m : ℕ) → HasMemory taking result → (result ≡ Err (view_error.Other m))
      ↔ ((m ≡ n) × IsOther row.keywords indexed n)
  pub not_of_row : (m : ℕ) → HasMemory taking result → (result ≡ Err (view_error.Fields m))
      ↔ ((m ≡ n) × Gives row indexed n None)
  pub steady : NeedsNoMemory taking result
  pub view : (vs : Values row.read) → HasMemory taking result → (seen fields result ≡ Ok vs)
      ↔ Gives row indexed n (Some vs)
