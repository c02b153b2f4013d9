-- The schema of a file: the one string in the list of the one FILE_SCHEMA of its header.
use Rattle.std.specs.Prelude.{◌≡◌, ℕ, Bool, false, List, [], ◌∷◌, ◌++◌, codes, slice_range, None}
use Rattle.std.specs.List.{filter}
use Rattle.std.specs.Str.{bytes_eq}
use Rattle.sb_lex.specs.declared.kinds.Kind.TheVariants as kind
use Rattle.sb_lex.specs.declared.kinds.Mark.TheVariants as mark
use Rattle.sb_lex.specs.declared.kinds.Token.{Token}
use Rattle.sb_lex.specs.Tokens.{AreTokens}
use Rattle.sb_step.specs.declared.step_file.records.Form.{Form}
use Rattle.sb_step.specs.declared.step_file.records.Form.TheVariants as form
use Rattle.sb_step.specs.declared.step_file.records.Record.{Record}
use Rattle.sb_step.specs.Lexemes.{Lexeme, lexemes, IsMark}
use Rattle.sb_step.specs.Rules.{Rule, One, ◌⋅◌}
use Rattle.sb_step.specs.Grammar.{BeginsSimple}
use Rattle.sb_step.specs.Indexed.{Indexed}

-- the record that begins there is simple, and its keyword has these letters
abbrev pub is_spelled : List ℕ → List ℕ → ℕ → Form → Bool
is_spelled letters input start (form.Simple end) = bytes_eq (slice_range input start end) letters
is_spelled letters input start form.Complex = false

-- the entity is a FILE_SCHEMA
abbrev pub is_schema : List ℕ → Record → Bool
is_schema input r = is_spelled (codes "FILE_SCHEMA") input r.start r.form

-- a string, and the text between its first apostrophe and its last
pub record IsString (text : List ℕ) (x : Lexeme) : Type 0 where
  pub string : x.token.kind ≡ kind.Str
  pub spelled : x.text ≡ codes "'" ++ (text ++ codes "'")

-- `KEYWORD(('text'))`: the record's one parameter is a list of one string
abbrev pub OneString : Record → List ℕ → Rule
OneString r text =
    One (BeginsSimple r) ⋅ One (IsMark mark.Open) ⋅ One (IsMark mark.Open)
    ⋅ One (IsString text) ⋅ One (IsMark mark.Close) ⋅ One (IsMark mark.Close)

-- this stands among the tokens of the input
pub record HasOneString (input : List ℕ) (r : Record) (text : List ℕ) : Type 0 where
  pub before : List Token
  pub from : List Token
  pub rest : List Lexeme
  pub are : AreTokens input (before ++ from) None
  pub stands : OneString r text (lexemes input from) rest

-- one entity of the header, and no second, is a FILE_SCHEMA, and the text is its one string as it
-- stands between its apostrophes, with each inside still doubled
pub record IsSchema (indexed : Indexed) (text : List ℕ) : Type 0 where
  pub entity : Record
  pub only : filter (is_schema indexed.input) indexed.file.header ≡ entity ∷ []
  pub string : HasOneString indexed.input entity text

-- no text is the schema of the file
abbrev pub HasNoSchema : Indexed → Type 0
HasNoSchema indexed = (text : List ℕ) → IsSchema indexed text → ⊥
