-- What the private steps of a view promise: where its reading begins, and what a form or a row gives of
-- the parameters that are left.
use Rattle.std.specs.Prelude.{◌≡◌, ℕ, true, List, Result, Ok, Err, drop, ok_or, slice_get}
use Rattle.sb_step.specs.declared.parameters.param.Param.{Param}
use Rattle.sb_step.specs.Indexed.{Indexed}
use Rattle.sb_step.specs.Records.Spans.{keyword_of}
use Rattle.sb_step.specs.Params.Parameters.{HasParameters}
use Rattle.sb_schema.specs.declared.error.ViewError.{ViewError}
use Rattle.sb_schema.specs.declared.error.ViewError.TheVariants as view_error
use Rattle.sb_schema.specs.declared.attributes.Attributes.{Attributes}
use Rattle.sb_schema.specs.Forms.{Form, Value, value}
use Rattle.sb_schema.specs.Table.{Row, Values, values, is_one_of}
use Rattle.sb_schema.specs.Views.{IsMissing, IsOther, Taking, HasMemory, seen}

-- an instance of one of the keywords has the number, and these are its parameters
pub record IsBegun (keywords : List (List ℕ)) (indexed : Indexed) (n : ℕ) (begun : Attributes)
    : Type 0 where
  pub number : begun.number ≡ n
  pub keyword : is_one_of keywords (keyword_of indexed n) ≡ true
  pub are : HasParameters indexed n begun.left
  pub only : (others : List Param) → HasParameters indexed n others → others ≡ begun.left

-- such an instance is begun, or it is said why not
abbrev pub Begins : List (List ℕ) → Indexed → ℕ → Result Attributes ViewError → Type 0
Begins keywords indexed n (Ok begun) = IsBegun keywords indexed n begun
Begins keywords indexed n (Err (view_error.Missing m)) = (m ≡ n) × IsMissing indexed n
Begins keywords indexed n (Err (view_error.Other m)) = (m ≡ n) × IsOther keywords indexed n
Begins keywords indexed n (Err _) = ⊥

-- so many parameters more are passed over
abbrev pub behind : ℕ → Attributes → Attributes
behind count begun = record begun { left = drop count begun.left }

-- the value by the form of the first parameter that is left, or `Fields`
abbrev pub TakesNext : Taking → (form : Form) → Attributes → Result (Value form) ViewError → Type 0
TakesNext taking form begun result =
    HasMemory taking result
    → result ≡ ok_or (value form (slice_get begun.left 0)) (view_error.Fields begun.number)

-- what the row gives of the parameters that are left, or `Fields`
abbrev pub Tells : Taking → (row : Row) → {V : Type 0} → (V → Values row.read) → Attributes
    → Result V ViewError → Type 0
Tells taking row fields begun result =
    HasMemory taking result
    → seen fields result ≡ ok_or (values row begun.left) (view_error.Fields begun.number)
