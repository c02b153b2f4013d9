-- What the private functions promise that look for the schema.
use Rattle.std.specs.Prelude.{◌≡◌, ℕ, ◌+◌, ◌-◌, ◌≤◌, Bool, false, ◌&&◌, if◌then◌else◌, List, [], ◌∷◌, length, slice_range, codes, Option, Some, None}
use Rattle.std.specs.List.{filter}
use Rattle.sb_lex.specs.declared.kinds.Kind.{Kind}
use Rattle.sb_lex.specs.declared.kinds.Kind.TheVariants as kind
use Rattle.sb_lex.specs.declared.kinds.Token.{Token}
use Rattle.sb_lex.specs.Tokens.{AreTokensFrom, Reading, least_length}
use Rattle.sb_step.specs.declared.step_file.records.Form.{Form}
use Rattle.sb_step.specs.declared.step_file.records.Form.TheVariants as form
use Rattle.sb_step.specs.declared.step_file.records.Record.{Record}
use Rattle.sb_step.specs.declared.step_file.schema.Schema.{Schema}
use Rattle.sb_step.specs.declared.step_file.schema.Schema.TheVariants as schema
use Rattle.sb_step.specs.Records.Schema.{is_spelled, is_schema}
use Rattle.sb_lex.specs.declared.kinds.Mark.{Mark}
use Rattle.sb_lex.specs.declared.kinds.Mark.TheVariants as mark
use Rattle.sb_step.specs.Lexemes.{is_mark}

-- one FILE_SCHEMA more, whose keyword ends at this byte
abbrev pub one_more : Schema → ℕ → Schema
one_more schema.Missing end = schema.One end
one_more _ end = schema.Several

-- one entity more, which is one or not
abbrev pub with_entity_by : List ℕ → Schema → ℕ → Form → Schema
with_entity_by input s start (form.Simple end) =
    if is_spelled (codes "FILE_SCHEMA") input start (form.Simple end) then one_more s end else s
with_entity_by input s start form.Complex = s

abbrev pub with_entity : List ℕ → Schema → Record → Schema
with_entity input s r = with_entity_by input s r.start r.form

-- the one item of a list, and its keyword ends there
pub record OnlyEnds (found : List Record) (end : ℕ) : Type 0 where
  pub entity : Record
  pub only : found ≡ entity ∷ []
  pub form : entity.form ≡ form.Simple end

-- how many were found: none, the one whose keyword ends there, or several
abbrev pub Says : List Record → Schema → Type 0
Says found schema.Missing = found ≡ []
Says found (schema.One end) = OnlyEnds found end
Says found schema.Several = 2 ≤ length found

-- that many of the entities are a FILE_SCHEMA
abbrev pub SchemaSays : List ℕ → List Record → Schema → Type 0
SchemaSays input entities s = Says (filter (is_schema input) entities) s

-- the tokens from the reader on
abbrev pub TokensAhead : Reading → List Token → Type 0
TokensAhead at tokens = AreTokensFrom at.input at.place tokens None

-- the first, if there is one
abbrev pub first_of : List Token → Option Token
first_of [] = None
first_of (t ∷ later) = Some t

-- those behind the first
abbrev pub behind_first : List Token → List Token
behind_first [] = []
behind_first (t ∷ later) = later

-- the token lies in an input so long, and has its least length
pub record TokenLies (size : ℕ) (t : Token) : Type 0 where
  pub long : t.start + least_length t.kind ≤ t.end
  pub within : t.end ≤ size

-- the mark
abbrev pub marks : Mark → Option Token → Bool
marks m None = false
marks m (Some t) = is_mark m t.kind

-- a parenthesis that opens
abbrev pub opens : Option Token → Bool
opens = marks mark.Open

-- one that closes
abbrev pub closes : Option Token → Bool
closes = marks mark.Close

-- the first two open
abbrev pub both_open : List Token → Bool
both_open tokens = opens (first_of tokens) && opens (first_of (behind_first tokens))

-- the first two close
abbrev pub both_close : List Token → Bool
both_close tokens = closes (first_of tokens) && closes (first_of (behind_first tokens))

-- the bytes between the first of a string and its last
abbrev pub inside_of : Kind → ℕ → ℕ → List ℕ → Option (List ℕ)
inside_of kind.Str start end input = Some (slice_range input (start + 1) (end - 1))
inside_of _ start end input = None

-- the same of a token, if there is one and it is a string
abbrev pub inside : List ℕ → Option Token → Option (List ℕ)
inside input None = None
inside input (Some t) = inside_of t.kind t.start t.end input

-- behind two parentheses that open, and before two that close
abbrev pub text_in : List ℕ → List Token → Option (List ℕ)
text_in input tokens =
    let string = behind_first (behind_first tokens) in
    if both_open tokens && both_close (behind_first string) then inside input (first_of string)
    else None
