-- What the grammar of exchange texts reads: tokens, each with the bytes that stand there.
use Rattle.std.specs.Prelude.{◌≡◌, ℕ, Bool, true, false, IsTrue, ◌==◌, List, slice_range, map, count_by}
use Rattle.sb_lex.specs.declared.kinds.Kind.{Kind}
use Rattle.sb_lex.specs.declared.kinds.Kind.TheVariants as kind
use Rattle.sb_lex.specs.declared.kinds.Mark.{Mark}
use Rattle.sb_lex.specs.declared.kinds.Mark.TheVariants as mark
use Rattle.sb_lex.specs.declared.kinds.Word.{Word}
use Rattle.sb_lex.specs.declared.kinds.Token.{Token}
use Rattle.sb_lex.specs.Kinds.{mark_byte}

-- a token and its bytes
pub record Lexeme : Type 0 where
  pub token : Token
  pub text : List ℕ

-- a token of an input
abbrev pub lexeme_at : List ℕ → Token → Lexeme
lexeme_at input t = record { token = t; text = slice_range input t.start t.end }

-- tokens of an input
abbrev pub lexemes : List ℕ → List Token → List Lexeme
lexemes input tokens = map (lexeme_at input) tokens

-- one of the two words
abbrev pub IsWord : Word → Lexeme → Type 0
IsWord w x = x.token.kind ≡ kind.Word w

-- a keyword of any letters
abbrev pub IsKeyword : Lexeme → Type 0
IsKeyword x = x.token.kind ≡ kind.Keyword

-- the keyword of these letters
pub record IsThe (letters : List ℕ) (x : Lexeme) : Type 0 where
  pub keyword : IsKeyword x
  pub spelled : x.text ≡ letters

-- the name of the instance of this number
abbrev pub IsName : ℕ → Lexeme → Type 0
IsName n x = x.token.kind ≡ kind.Name n

-- the mark
abbrev pub IsMark : Mark → Lexeme → Type 0
IsMark m x = x.token.kind ≡ kind.Mark m

-- the kinds that are a parameter by themselves
abbrev pub is_value : Kind → Bool
is_value kind.Integer = true
is_value kind.Real = true
is_value kind.Str = true
is_value kind.Enumeration = true
is_value kind.Binary = true
is_value (kind.Name n) = true
is_value (kind.Mark mark.Dollar) = true
is_value (kind.Mark mark.Asterisk) = true
is_value _ = false

-- an integer, a real, a string, an enumeration, a binary, a name, `$` or `*`
abbrev pub IsValue : Lexeme → Type 0
IsValue x = IsTrue (is_value x.token.kind)

-- this mark: marks are told apart by their bytes
abbrev pub is_mark : Mark → Kind → Bool
is_mark m (kind.Mark n) = mark_byte n == mark_byte m
is_mark m _ = false

-- an opening parenthesis
abbrev pub is_open : Kind → Bool
is_open = is_mark mark.Open

-- a closing parenthesis
abbrev pub is_close : Kind → Bool
is_close = is_mark mark.Close

-- how many parentheses open
abbrev pub opened : List Lexeme → ℕ
opened xs = count_by (λ x. is_open x.token.kind) xs

-- how many close
abbrev pub closed : List Lexeme → ℕ
closed xs = count_by (λ x. is_close x.token.kind) xs
