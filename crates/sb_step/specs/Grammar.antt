-- The grammar of exchange texts (ISO 10303-21), case by case, and the file that a text describes.
use Rattle.std.specs.Prelude.{◌≡◌, ℕ, ◌+◌, ◌≤◌, ◌⊎◌, List, [], ◌∷◌, ◌++◌, codes}
use Rattle.sb_lex.specs.declared.kinds.Mark.TheVariants as mark
use Rattle.sb_lex.specs.declared.kinds.Word.TheVariants as word
use Rattle.sb_step.specs.declared.step_file.records.Form.TheVariants as form
use Rattle.sb_step.specs.declared.step_file.records.Record.{Record}
use Rattle.sb_step.specs.Lexemes.{Lexeme, IsWord, IsKeyword, IsThe, IsName, IsMark, IsValue, opened, closed}
use Rattle.sb_step.specs.Rules.{Rule, One, ◌⋅◌, Many, Each, SomeOf}

-- what a text describes: the records of its header in order, the number and the record of each
-- instance in order, and where the ENDSEC of its data begins
pub record File : Type 0 where
  pub header : List Record
  pub instances : List (ℕ × Record)
  pub data_end : ℕ

mutual
  -- one value, a parameter list, or a keyword with one parameter in parentheses
  pub data Parameter : List Lexeme → List Lexeme → Type 0 where
    value : {x : Lexeme} {rest : List Lexeme} → IsValue x → Parameter (x ∷ rest) rest
    list : {xs rest : List Lexeme} → ParameterList xs rest → Parameter xs rest
    typed : {keyword open_mark close_mark : Lexeme} {xs rest : List Lexeme} → IsKeyword keyword
        → IsMark mark.Open open_mark → Parameter xs (close_mark ∷ rest)
        → IsMark mark.Close close_mark → Parameter (keyword ∷ open_mark ∷ xs) rest

  -- parameters in parentheses, separated by commas; none too
  pub data ParameterList : List Lexeme → List Lexeme → Type 0 where
    empty : {open_mark close_mark : Lexeme} {rest : List Lexeme} → IsMark mark.Open open_mark
        → IsMark mark.Close close_mark → ParameterList (open_mark ∷ close_mark ∷ rest) rest
    some : {open_mark : Lexeme} {xs ys rest : List Lexeme} → IsMark mark.Open open_mark
        → Parameter xs ys → MoreParameters ys rest → ParameterList (open_mark ∷ xs) rest

  -- behind a parameter of a list: its end, or a comma and a further parameter
  pub data MoreParameters : List Lexeme → List Lexeme → Type 0 where
    last : {close_mark : Lexeme} {rest : List Lexeme} → IsMark mark.Close close_mark
        → MoreParameters (close_mark ∷ rest) rest
    more : {comma : Lexeme} {xs ys rest : List Lexeme} → IsMark mark.Comma comma
        → Parameter xs ys → MoreParameters ys rest → MoreParameters (comma ∷ xs) rest

-- a semicolon
abbrev pub Semicolon : Rule
Semicolon = One (IsMark mark.Semicolon)

-- a semicolon that begins at this byte
abbrev pub SemicolonAt : ℕ → Rule
SemicolonAt place = One (λ x. IsMark mark.Semicolon x × (x.token.start ≡ place))

-- the keyword with which a simple record begins
pub record BeginsSimple (r : Record) (x : Lexeme) : Type 0 where
  pub keyword : IsKeyword x
  pub start : x.token.start ≡ r.start
  pub form : r.form ≡ form.Simple x.token.end

-- a keyword, a parameter list and a semicolon
abbrev pub IsSimple : Record → Rule
IsSimple r = One (BeginsSimple r) ⋅ ParameterList ⋅ SemicolonAt r.end

-- the parenthesis with which a complex record begins
pub record BeginsComplex (r : Record) (x : Lexeme) : Type 0 where
  pub open_mark : IsMark mark.Open x
  pub start : x.token.start ≡ r.start
  pub form : r.form ≡ form.Complex

-- a keyword and a parameter list, within a complex record
abbrev pub InnerRecord : Rule
InnerRecord = One IsKeyword ⋅ ParameterList

-- one or more records in parentheses, and a semicolon
abbrev pub IsComplex : Record → Rule
IsComplex r =
    One (BeginsComplex r) ⋅ InnerRecord ⋅ Many InnerRecord ⋅ One (IsMark mark.Close) ⋅ SemicolonAt
    r.end

-- one of the two, with its semicolon
abbrev pub IsRecord : Record → Rule
IsRecord r xs rest = IsSimple r xs rest ⊎ IsComplex r xs rest

-- a name, `=` and a record
abbrev pub IsInstance : ℕ × Record → Rule
IsInstance i = One (IsName i.0) ⋅ One (IsMark mark.Equals) ⋅ IsRecord i.1

-- the ENDSEC that begins at this byte
abbrev pub EndOfData : ℕ → Rule
EndOfData place = One (λ x. IsThe (codes "ENDSEC") x × (x.token.start ≡ place))

-- The whole text, section by section. ISO 10303-21 asks for three entities in the header; that one
-- of any keyword is enough is this project's leniency.
abbrev pub Sections : File → Rule
Sections file =
    One (IsWord word.First) ⋅ Semicolon
    ⋅ One (IsThe (codes "HEADER")) ⋅ Semicolon ⋅ SomeOf IsSimple file.header
    ⋅ One (IsThe (codes "ENDSEC")) ⋅ Semicolon
    ⋅ One (IsThe (codes "DATA")) ⋅ Semicolon ⋅ Each IsInstance file.instances
    ⋅ EndOfData file.data_end ⋅ Semicolon
    ⋅ One (IsWord word.Last) ⋅ Semicolon

-- how many parentheses may be open at one place
abbrev pub greatest_depth : ℕ
greatest_depth = 64

-- at no place are more parentheses open than may be
abbrev pub IsShallow : List Lexeme → Type 0
IsShallow xs = (front back : List Lexeme) → xs ≡ front ++ back
    → opened front ≤ closed front + greatest_depth

-- a text of the grammar, and the file that it describes
pub record IsText (xs : List Lexeme) (file : File) : Type 0 where
  pub sections : Sections file xs []
  pub shallow : IsShallow xs
