-- What the calls of a cursor give of the next parameter, form by form: a value where the parameter is
-- of the form, and none where it is of another or where none is left.
use Rattle.std.specs.Prelude.{◌≡◌, ℕ, Bool, true, false, List, [], ◌∷◌, Option, Some, None}
use Rattle.theory_bytes.specs.Insides.{inside_of}
use Rattle.sb_lex.specs.declared.kinds.Kind.{Kind}
use Rattle.sb_lex.specs.declared.kinds.Kind.TheVariants as kind
use Rattle.sb_lex.specs.declared.kinds.Mark.TheVariants as mark
use Rattle.sb_step.specs.declared.parameters.param.Param.{Param}
use Rattle.sb_step.specs.declared.parameters.param.Param.TheVariants as param

-- a reference: the number of its instance
abbrev pub reference_in : Option Param → Option ℕ
reference_in (Some (param.Reference n)) = Some n
reference_in _ = None

-- a reference or `$`, which gives no number
abbrev pub reference_or_none_in : Option Param → Option (Option ℕ)
reference_or_none_in (Some (param.Reference n)) = Some (Some n)
reference_or_none_in (Some param.Null) = Some None
reference_or_none_in _ = None

-- an integer or a real, as it stands
abbrev pub number_in : Option Param → Option (List ℕ)
number_in (Some (param.Int text)) = Some text
number_in (Some (param.Real text)) = Some text
number_in _ = None

-- an integer, as it stands
abbrev pub integer_in : Option Param → Option (List ℕ)
integer_in (Some (param.Int text)) = Some text
integer_in _ = None

-- an enumeration, without its points
abbrev pub enumeration_in : Option Param → Option (List ℕ)
enumeration_in (Some (param.Enumeration text)) = Some text
enumeration_in _ = None

-- a string, in which a doubled apostrophe is one
abbrev pub string_in : Option Param → Option (List ℕ)
string_in (Some (param.Str text)) = Some text
string_in _ = None

-- `$`, which is no value
abbrev pub is_null_in : Option Param → Bool
is_null_in (Some param.Null) = true
is_null_in _ = false

-- a list of these parameters
abbrev pub IsList : Option Param → List Param → Type 0
IsList first ps = first ≡ Some (param.List ps)

-- a keyword with one parameter in parentheses, which is given as a list of one
abbrev pub IsTyped : Option Param → List ℕ → List Param → Type 0
IsTyped first name ps = (p : Param) × (first ≡ Some (param.Typed name p)) × (ps ≡ p ∷ [])

-- The same by the token with which the parameter begins

-- of a name its number
abbrev pub name_of : Kind → Option ℕ
name_of (kind.Name n) = Some n
name_of _ = None

-- of a name its number, of `$` none
abbrev pub name_or_none_of : Kind → Option (Option ℕ)
name_or_none_of (kind.Name n) = Some (Some n)
name_or_none_of (kind.Mark mark.Dollar) = Some None
name_or_none_of _ = None

-- of an integer and of a real the text
abbrev pub number_text : Kind → List ℕ → Option (List ℕ)
number_text kind.Integer text = Some text
number_text kind.Real text = Some text
number_text _ text = None

-- of an integer the text
abbrev pub integer_text : Kind → List ℕ → Option (List ℕ)
integer_text kind.Integer text = Some text
integer_text _ text = None

-- of an enumeration what is inside
abbrev pub enumeration_text : Kind → List ℕ → Option (List ℕ)
enumeration_text kind.Enumeration text = Some (inside_of text)
enumeration_text _ text = None

-- a string
abbrev pub is_string : Kind → Bool
is_string kind.Str = true
is_string _ = false

-- the mark `$`
abbrev pub is_dollar : Kind → Bool
is_dollar (kind.Mark mark.Dollar) = true
is_dollar _ = false
