-- What the parameters of a record say: beside each rule of the grammar, the value that it gives.
use Rattle.std.specs.Prelude.{◌≡◌, ℕ, ◌==◌, nat_eq, List, [], ◌∷◌, ◌++◌, Some, None, codes, if◌then◌else◌}
use Rattle.std.specs.Map.{lookup}
use Rattle.sb_lex.specs.declared.kinds.Kind.{Kind}
use Rattle.sb_lex.specs.declared.kinds.Kind.TheVariants as kind
use Rattle.sb_lex.specs.declared.kinds.Mark.TheVariants as mark
use Rattle.sb_lex.specs.declared.kinds.Token.{Token}
use Rattle.sb_lex.specs.Bytes.{apostrophe}
use Rattle.sb_lex.specs.Tokens.{AreTokens}
use Rattle.sb_step.specs.declared.step_file.records.Form.{Form}
use Rattle.sb_step.specs.declared.step_file.records.Form.TheVariants as form
use Rattle.sb_step.specs.declared.step_file.records.Record.{Record}
use Rattle.sb_step.specs.declared.parameters.param.Param.{Param}
use Rattle.sb_step.specs.declared.parameters.param.Param.TheVariants as param
use Rattle.sb_step.specs.Lexemes.{Lexeme, lexemes, IsKeyword, IsMark}
use Rattle.sb_step.specs.Rules.{Rule, One, ◌⋅◌}
use Rattle.sb_step.specs.Grammar.{BeginsSimple, SemicolonAt, ParameterList}
use Rattle.sb_step.specs.Indexed.{Indexed}
use Rattle.sb_step.specs.IndexAnswers.{IsIndexed}

-- a byte as it is written in a string: an apostrophe twice
abbrev pub written : ℕ → List ℕ
written b = if b == apostrophe then b ∷ b ∷ [] else b ∷ []

-- each byte so: `it's` is written `it''s`
abbrev pub doubled : List ℕ → List ℕ
doubled [] = []
doubled (b ∷ bytes) = written b ++ doubled bytes

-- the text is this inside with the same bytes before it and behind it
pub record Encloses (around inside text : List ℕ) : Type 0 where
  pub whole : text ≡ around ++ inside ++ around

-- What a token that is a parameter by itself says, kind by kind. A string says the bytes that
-- stand in its apostrophes with each apostrophe doubled.
abbrev pub Says : Kind → List ℕ → Param → Type 0
Says kind.Integer text p = p ≡ param.Int text
Says kind.Real text p = p ≡ param.Real text
Says kind.Str text p =
    (s : List ℕ) × Encloses (codes "'") (doubled s) text × (p ≡ param.Str s)
Says kind.Enumeration text p =
    (s : List ℕ) × Encloses (codes ".") s text × (p ≡ param.Enumeration s)
Says kind.Binary text p = (s : List ℕ) × Encloses (codes "\"") s text × (p ≡ param.Binary s)
Says (kind.Name n) text p = p ≡ param.Reference n
Says (kind.Mark mark.Dollar) text p = p ≡ param.Null
Says (kind.Mark mark.Asterisk) text p = p ≡ param.Derived
Says _ text p = ⊥

mutual
  -- a parameter, and what it says
  pub data IsParameter : Param → List Lexeme → List Lexeme → Type 0 where
    value : {p : Param} {x : Lexeme} {rest : List Lexeme} → Says x.token.kind x.text p
        → IsParameter p (x ∷ rest) rest
    list : {ps : List Param} {xs rest : List Lexeme} → AreParameters ps xs rest
        → IsParameter (param.List ps) xs rest
    typed : {keyword open_mark close_mark : Lexeme} {p : Param} {xs rest : List Lexeme}
        → IsKeyword keyword → IsMark mark.Open open_mark → IsParameter p xs (close_mark ∷ rest)
        → IsMark mark.Close close_mark
        → IsParameter (param.Typed keyword.text p) (keyword ∷ open_mark ∷ xs) rest

  -- a parameter list, and what it says
  pub data AreParameters : List Param → List Lexeme → List Lexeme → Type 0 where
    empty : {open_mark close_mark : Lexeme} {rest : List Lexeme} → IsMark mark.Open open_mark
        → IsMark mark.Close close_mark → AreParameters [] (open_mark ∷ close_mark ∷ rest) rest
    some : {open_mark : Lexeme} {p : Param} {ps : List Param} {xs ys rest : List Lexeme}
        → IsMark mark.Open open_mark → IsParameter p xs ys → AreFurther ps ys rest
        → AreParameters (p ∷ ps) (open_mark ∷ xs) rest

  -- what follows a parameter of a list, and what it says
  pub data AreFurther : List Param → List Lexeme → List Lexeme → Type 0 where
    last : {close_mark : Lexeme} {rest : List Lexeme} → IsMark mark.Close close_mark
        → AreFurther [] (close_mark ∷ rest) rest
    more : {comma : Lexeme} {p : Param} {ps : List Param} {xs ys rest : List Lexeme}
        → IsMark mark.Comma comma → IsParameter p xs ys → AreFurther ps ys rest
        → AreFurther (p ∷ ps) (comma ∷ xs) rest

-- a simple record, and what its parameter list says
abbrev pub SaysSimple : Record → List Param → Rule
SaysSimple r ps = One (BeginsSimple r) ⋅ AreParameters ps ⋅ SemicolonAt r.end

-- among the tokens of the input the simple record stands, and says these parameters
pub record HoldsParameters (input : List ℕ) (r : Record) (ps : List Param) : Type 0 where
  pub before : List Token
  pub from : List Token
  pub are : AreTokens input (before ++ from) None
  pub rest : List Lexeme
  pub says : SaysSimple r ps (lexemes input from) rest

-- the parameters of a record by its form: a complex one is given none
abbrev pub HoldsByForm : Form → List ℕ → Record → List Param → Type 0
HoldsByForm (form.Simple end) input r ps = HoldsParameters input r ps
HoldsByForm form.Complex input r ps = ps ≡ []

-- the parameters of the instance of this number
pub record HasParameters (indexed : Indexed) (n : ℕ) (ps : List Param) : Type 0 where
  pub record_of : Record
  pub found : lookup (nat_eq n) indexed.file.instances ≡ Some record_of
  pub holds : HoldsByForm record_of.form indexed.input record_of ps

-- Laws

-- each instance of a file has parameters
abbrev pub EachInstanceHasParameters : Type 0
EachInstanceHasParameters =
    (indexed : Indexed) (n : ℕ) (r : Record) → IsIndexed indexed.input indexed
    → lookup (nat_eq n) indexed.file.instances ≡ Some r
    → (ps : List Param) × HasParameters indexed n ps

-- and no others
abbrev pub ParametersAreUnique : Type 0
ParametersAreUnique =
    (indexed : Indexed) (n : ℕ) (ps qs : List Param) → HasParameters indexed n ps
    → HasParameters indexed n qs → ps ≡ qs

-- only the lists of the grammar say parameters
abbrev pub OnlyListsSayParameters : Type 0
OnlyListsSayParameters =
    (ps : List Param) (xs rest : List Lexeme) → AreParameters ps xs rest → ParameterList xs rest

-- and none says two lists of parameters, or ends at two places
abbrev pub EachListSaysOne : Type 0
EachListSaysOne =
    (ps qs : List Param) (xs rest other : List Lexeme) → AreParameters ps xs rest
    → AreParameters qs xs other → (ps ≡ qs) × (rest ≡ other)
