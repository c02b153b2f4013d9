-- What a reader of tokens passes over, and what the steps that read parameters promise of it.
use Rattle.std.specs.Prelude.{◌≡◌, ℕ, ◌<◌, ◌≤◌, List, [], ◌∷◌, length}
use Rattle.sb_lex.specs.declared.kinds.Mark.TheVariants as mark
use Rattle.sb_lex.specs.declared.kinds.Token.{Token}
use Rattle.sb_lex.specs.Tokens.{IsNext, IsEnd, IsToken, LiesBehind, Reading}
use Rattle.sb_step.specs.declared.parameters.param.Param.{Param}
use Rattle.sb_step.specs.Lexemes.{Lexeme, lexeme_at, IsMark}
use Rattle.sb_step.specs.Rules.{Rule, One, Joined}
use Rattle.sb_step.specs.Params.Parameters.{IsParameter, AreFurther}

-- the reader behind this token
abbrev pub behind : List ℕ → Token → Reading
behind input t = record { input = input; place = t.end }

-- the reader stands before these lexemes, behind which its input ends
abbrev pub AreAhead : Reading → List Lexeme → Type 0
AreAhead at [] = IsEnd at.input at.place
AreAhead at (x ∷ xs) =
    IsNext at.input at.place x.token × (x ≡ lexeme_at at.input x.token)
    × AreAhead (behind at.input x.token) xs

-- there is a token to be read
abbrev pub HasNext : Reading → Type 0
HasNext at = (t : Token) × IsNext at.input at.place t

-- the token was read, and none but it could be
pub record ReadsToken (old new : Reading) (t : Token) : Type 0 where
  pub next : IsNext old.input old.place t
  pub only : (u : Token) → IsNext old.input old.place u → u ≡ t
  pub moved : new ≡ behind old.input t
  pub lies : LiesBehind old t

-- it stands before what the rule describes, for some value
pub record Awaits {A : Type 0} (P : A → Rule) (at : Reading) : Type 0 where
  pub value : A
  pub xs : List Lexeme
  pub rest : List Lexeme
  pub ahead : AreAhead at xs
  pub is : P value xs rest

-- it has moved on in its input
pub record Onward (old new : Reading) : Type 0 where
  pub input_is : new.input ≡ old.input
  pub place : old.place ≤ new.place

-- the value was read: the rule describes no other where the reader stood, and it stands behind it
pub record Reads {A : Type 0} (P : A → Rule) (old new : Reading) (value : A) : Type 0 where
  pub onward : Onward old new
  pub leads : (a : A) (xs rest : List Lexeme) → AreAhead old xs → P a xs rest
      → (a ≡ value) × AreAhead new rest

-- the rule, where this lexeme was read already
abbrev pub Behind : {A : Type 0} → Lexeme → (A → Rule) → A → Rule
Behind x P a xs rest = P a (x ∷ xs) rest

-- behind the parenthesis of a list: its end, or what its parameters say
abbrev pub AreInList : List Param → Rule
AreInList [] xs rest = One (IsMark mark.Close) xs rest
AreInList (p ∷ ps) xs rest = Joined (IsParameter p) (AreFurther ps) xs rest

-- behind a parameter of a list, the token was read with which its list goes on or ends
pub record NextItem (x : Lexeme) (new : Reading) (ps : List Param) (rest : List Lexeme)
    : Type 0 where
  pub ys : List Lexeme
  pub ahead : AreAhead new ys
  pub in_list : AreInList ps (x ∷ ys) rest

-- behind a parameter of a list, the next token was read, or two of them
pub record ReadsItem (old new : Reading) (t : Token) : Type 0 where
  pub input_is : new.input ≡ old.input
  pub further : old.place < new.place
  pub within : new.place ≤ length old.input
  pub token : IsToken old.input t
  pub leads : (ps : List Param) (xs rest : List Lexeme) → AreAhead old xs → AreFurther ps xs rest
      → NextItem (lexeme_at old.input t) new ps rest
