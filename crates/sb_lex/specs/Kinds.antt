-- The kinds of tokens of an exchange text (ISO 10303-21): each is a set of byte strings, together
-- with what may not follow it directly.
use Rattle.std.specs.Prelude.{◌≡◌, ℕ, ◌^◌, ◌<◌, ◌⊎◌, Bool, false, not, List, [], ◌∷◌, codes}
use Rattle.std.specs.Char.{is_ascii_digit}
use Rattle.std.specs.Str.Parse.{digits_value}
use Rattle.sb_lex.specs.declared.kinds.Kind.{Kind}
use Rattle.sb_lex.specs.declared.kinds.Kind.TheVariants as kind
use Rattle.sb_lex.specs.declared.kinds.Mark.{Mark}
use Rattle.sb_lex.specs.declared.kinds.Mark.TheVariants as mark
use Rattle.sb_lex.specs.declared.kinds.Word.{Word}
use Rattle.sb_lex.specs.declared.kinds.Word.TheVariants as word
use Rattle.theory_bytes.specs.Sets.{Text, Byte, Bytes, SomeBytes, ◌⋅◌, Optional, Repeated, Holds}
use Rattle.sb_lex.specs.Bytes.{dollar, open_parenthesis, close_parenthesis, asterisk, comma, semicolon, equals, is_letter, is_word_byte, is_hex, is_filling, is_sign, is_white, is_apostrophe}

-- the two words that stand around a text
abbrev pub word_text : Word → List ℕ
word_text word.First = codes "ISO-10303-21"
word_text word.Last = codes "END-ISO-10303-21"

-- the one byte of a mark
abbrev pub mark_byte : Mark → ℕ
mark_byte mark.Dollar = dollar
mark_byte mark.Asterisk = asterisk
mark_byte mark.Open = open_parenthesis
mark_byte mark.Close = close_parenthesis
mark_byte mark.Comma = comma
mark_byte mark.Semicolon = semicolon
mark_byte mark.Equals = equals

-- decimal digits, at least one
abbrev pub Digits : List ℕ → Type 0
Digits = SomeBytes is_ascii_digit

-- with an optional sign before it
abbrev pub Signed : (List ℕ → Type 0) → List ℕ → Type 0
Signed P = Optional (Byte is_sign) ⋅ P

-- digits that write this number, with any zeros before it
pub record Numeral (number : ℕ) (xs : List ℕ) : Type 0 where
  pub digits : Digits xs
  pub value : digits_value 10 xs ≡ number

-- an upper-case letter or `_`, and then letters, digits and `_`
abbrev pub Letters : List ℕ → Type 0
Letters = Byte is_letter ⋅ Bytes is_word_byte

-- one more than the greatest number of an instance
abbrev pub numbers_end : ℕ
numbers_end = 2 ^ 32

-- the number of a name, from 1 to 4,294,967,295
pub record IsInstanceNumber (number : ℕ) : Type 0 where
  pub positive : 0 < number
  pub fits : number < numbers_end

-- `#` and digits that write the number
pub record IsName (number : ℕ) (xs : List ℕ) : Type 0 where
  pub written : (Text (codes "#") ⋅ Numeral number) xs
  pub in_range : IsInstanceNumber number

-- `E`, an optional sign and digits
abbrev pub Exponent : List ℕ → Type 0
Exponent = Text (codes "E") ⋅ Signed Digits

-- inside a string a byte stands for itself, and two apostrophes for one
abbrev pub StringPiece : List ℕ → Type 0
StringPiece xs = Byte (λ b. not (is_apostrophe b)) xs ⊎ Text (codes "''") xs

-- a digit from 0 to 3, which counts the bits that fill up, and then hexadecimal digits
abbrev pub HexDigits : List ℕ → Type 0
HexDigits = Byte is_filling ⋅ Bytes is_hex

-- the byte strings of a kind, row by row. The inside of a string, an enumeration and a binary lies
-- between their first byte and their last
abbrev pub IsOf : Kind → List ℕ → Type 0
IsOf (kind.Word w) = Text (word_text w)
IsOf kind.Keyword = Optional (Text (codes "!")) ⋅ Letters
IsOf (kind.Name n) = IsName n
IsOf kind.Integer = Signed Digits
IsOf kind.Real = Signed (Digits ⋅ Text (codes ".") ⋅ Bytes is_ascii_digit ⋅ Optional Exponent)
IsOf kind.Str = Text (codes "'") ⋅ Repeated StringPiece ⋅ Text (codes "'")
IsOf kind.Enumeration = Text (codes ".") ⋅ Letters ⋅ Text (codes ".")
IsOf kind.Binary = Text (codes "\"") ⋅ HexDigits ⋅ Text (codes "\"")
IsOf (kind.Mark m) = Text (mark_byte m ∷ [])

-- The bytes that may not follow a token of the kind directly. So a name takes all its digits, and
-- the apostrophes of a string are paired from the left: `#4294967296` and `'a''b` begin no token.
abbrev pub not_after : Kind → ℕ → Bool
not_after (kind.Name n) b = is_ascii_digit b
not_after kind.Str b = is_apostrophe b
not_after _ b = false

-- a text in which `*/` does not stand
abbrev pub Unclosed : List ℕ → Type 0
Unclosed xs = Holds (codes "*/") xs → ⊥

-- `/*` up to the next `*/`, so that comments do not nest
abbrev pub IsComment : List ℕ → Type 0
IsComment = Text (codes "/*") ⋅ Unclosed ⋅ Text (codes "*/")

-- what may stand between tokens: white space bytes and comments
abbrev pub BlankPiece : List ℕ → Type 0
BlankPiece xs = Byte is_white xs ⊎ IsComment xs

-- any number of these, none too
abbrev pub Blank : List ℕ → Type 0
Blank = Repeated BlankPiece
