-- The forms that an attribute may have: which parameters are of a form, and what value they give.
use Rattle.std.specs.Prelude.{ℕ, ◌==◌, ◌||◌, Bool, List, [], ◌∷◌, Option, Some, None, length, option_map, option_and_then, if◌then◌else◌}
use Rattle.sb_step.specs.declared.parameters.param.Param.{Param}
use Rattle.sb_step.specs.declared.parameters.param.Param.TheVariants as param
use Rattle.sb_step.specs.Cursors.Forms.{reference_in, reference_or_none_in, number_in, integer_in, enumeration_in, string_in}
use Rattle.sb_step.specs.declared.parameters.param.Param.TheViews.{out-Param}
use Rattle.sb_step.specs.declared.parameters.param.Param.TheOpen as opened
use Rattle.sb_step.specs.declared.parameters.param.Param.TheOpen.{Param-F}
use Rattle.sb_schema.specs.declared.lists.TypedList.{TypedList}

pub data Form : Type 0 where
  -- another instance
  reference : Form
  -- another instance, or `$` for none
  reference_or_none : Form
  -- an integer or a real
  number : Form
  -- a string
  string : Form
  -- a string, or `$` for none
  string_or_none : Form
  enumeration : Form
  -- a list of references
  references : Form
  -- a list of two or three numbers
  coordinates : Form
  -- a list of lists of two numbers
  pairs : Form
  -- a list of typed lists of integers, or `$` for none
  typed_lists_or_none : Form

-- what a form gives
abbrev pub Value : Form → Type 0
Value reference = ℕ
Value reference_or_none = Option ℕ
Value number = List ℕ
Value string = List ℕ
Value string_or_none = Option (List ℕ)
Value enumeration = List ℕ
Value references = List ℕ
Value coordinates = List (List ℕ)
Value pairs = List (List (List ℕ))
Value typed_lists_or_none = Option (List TypedList)

-- two values, where both are given
abbrev pub both : {A B : Type 0} → Option A → Option B → Option (A × B)
both (Some a) (Some b) = Some (a, b)
both _ _ = None

-- `$`, or of the form
abbrev pub or_none : {A : Type 0} → (Option Param → Option A) → Option Param → Option (Option A)
or_none form (Some param.Null) = Some None
or_none form p = option_map Some (form p)

-- a value and those behind it, where all are given
abbrev pub with_first : {A : Type 0} → Option A → Option (List A) → Option (List A)
with_first (Some a) (Some as_) = Some (a ∷ as_)
with_first _ _ = None

-- parameters that are all of the form
abbrev pub each : {A : Type 0} → (Option Param → Option A) → List Param → Option (List A)
each form [] = Some []
each form (p ∷ ps) = with_first (form (Some p)) (each form ps)

-- the items of a list
abbrev pub items_of : Param-F Param → Option (List Param)
items_of (opened.List ps) = Some ps
items_of _ = None

abbrev pub items_in : Option Param → Option (List Param)
items_in None = None
items_in (Some p) = items_of (out-Param p)

-- a list whose items are all of the form
abbrev pub list_of : {A : Type 0} → (Option Param → Option A) → Option Param → Option (List A)
list_of form p = option_and_then (each form) (items_in p)

-- a value that passes a test
abbrev pub only_if : {A : Type 0} → (A → Bool) → Option A → Option A
only_if test (Some a) = if test a then Some a else None
only_if test None = None

-- of two items
abbrev pub are_two : {A : Type 0} → List A → Bool
are_two items = length items == 2

-- of two or three items
abbrev pub are_two_or_three : {A : Type 0} → List A → Bool
are_two_or_three items = are_two items || length items == 3

-- a list of two numbers
abbrev pub pair_in : Option Param → Option (List (List ℕ))
pair_in p = only_if are_two (list_of number_in p)

-- a keyword with a list of integers in parentheses
abbrev pub typed_list_of : Param-F Param → Option TypedList
typed_list_of (opened.Typed keyword p) =
    option_map (λ list. record { keyword = keyword; list = list }) (list_of integer_in (Some p))
typed_list_of _ = None

abbrev pub typed_list_in : Option Param → Option TypedList
typed_list_in None = None
typed_list_in (Some p) = typed_list_of (out-Param p)

-- the value of a parameter by the form, where it is of the form
abbrev pub value : (form : Form) → Option Param → Option (Value form)
value reference p = reference_in p
value reference_or_none p = reference_or_none_in p
value number p = number_in p
value string p = string_in p
value string_or_none p = or_none string_in p
value enumeration p = enumeration_in p
value references p = list_of reference_in p
value coordinates p = only_if are_two_or_three (list_of number_in p)
value pairs p = list_of pair_in p
value typed_lists_or_none p = or_none (list_of typed_list_in) p
