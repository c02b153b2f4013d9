-- Tests of the kinds of tokens.
use Rattle.std.specs.Prelude.{ℕ, Bool, true, false, ◌&&◌, List}
use Rattle.std.specs.Str.{bytes_eq}
use Rattle.sb_lex.specs.declared.kinds.Kind.{Kind}
use Rattle.sb_lex.specs.declared.kinds.Kind.TheVariants as kind
use Rattle.sb_lex.specs.declared.kinds.Mark.TheVariants as mark
use Rattle.sb_lex.specs.declared.kinds.Word.TheVariants as word
use Rattle.sb_step.specs.Lexemes.{Lexeme, is_mark}

-- `;`
abbrev pub is_semicolon : Kind → Bool
is_semicolon = is_mark mark.Semicolon

-- `,`
abbrev pub is_comma : Kind → Bool
is_comma = is_mark mark.Comma

-- `=`
abbrev pub is_equals : Kind → Bool
is_equals = is_mark mark.Equals

-- the first word of a text
abbrev pub is_first : Kind → Bool
is_first (kind.Word word.First) = true
is_first _ = false

-- its last word
abbrev pub is_last : Kind → Bool
is_last (kind.Word word.Last) = true
is_last _ = false

-- a keyword of any letters
abbrev pub is_keyword : Kind → Bool
is_keyword kind.Keyword = true
is_keyword _ = false

-- a name
abbrev pub is_name : Kind → Bool
is_name (kind.Name n) = true
is_name _ = false

-- the number of a name
abbrev pub number_of : Kind → ℕ
number_of (kind.Name n) = n
number_of _ = 0

-- the keyword of these letters
abbrev pub is_the : List ℕ → Lexeme → Bool
is_the letters x = is_keyword x.token.kind && bytes_eq x.text letters
