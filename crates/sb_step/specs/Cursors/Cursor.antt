-- Which parameters of an instance a cursor has before it: those that are left of its list.
use Rattle.std.specs.Prelude.{◌≡◌, ℕ, false, List, [], ◌∷◌, Option, Some, None, if◌then◌else◌}
use mathlib.Core.HLevel.{is_prop→PathP}
use mathlib.Core.Logic.{∥∥₁_elim, ∥∥₁_prop}
use Rattle.std.proofs.Props.{props}
use Rattle.sb_lex.specs.declared.kinds.Token.{Token}
use Rattle.sb_lex.specs.Tokens.{IsToken}
use Rattle.sb_step.specs.declared.parameters.param.Param.{Param}
use Rattle.sb_step.specs.Lexemes.{Lexeme, lexeme_at, is_close}
use Rattle.sb_step.specs.Params.Readers.{behind, AreAhead, AreInList}

-- The token was read with which the next parameter begins, so it ends no list. The parameter and
-- the others of its list are left.
pub record StandsAt (input : List ℕ) (t : Token) (ps : List Param) : Type 0 where
  pub token : IsToken input t
  pub going : is_close t.kind ≡ false
  pub xs : List Lexeme
  pub rest : List Lexeme
  pub ahead : AreAhead (behind input t) xs
  pub says : AreInList ps (lexeme_at input t ∷ xs) rest

-- with no token, none is left
abbrev pub AreLeft : List ℕ → Option Token → List Param → Type 0
AreLeft input None ps = ps ≡ []
AreLeft input (Some t) ps = StandsAt input t ps

-- the parameters of the list whose parenthesis this token is
pub record ListBehind (input : List ℕ) (t : Token) (ps : List Param) : Type 0 where
  pub xs : List Lexeme
  pub rest : List Lexeme
  pub ahead : AreAhead (behind input t) xs
  pub says : AreInList ps xs rest

-- a token that was read in a list, unless it ends that
abbrev pub unless_closed : Token → Option Token
unless_closed t = if is_close t.kind then None else Some t

-- Law

-- wherever a cursor stands, there is one list of parameters that are left
abbrev pub LeftAreUnique : Type 0
LeftAreUnique =
    (input : List ℕ) (next : Option Token) (ps qs : List Param) → AreLeft input next ps
    → AreLeft input next qs → ps ≡ qs

-- it can be so in one way
pub LeftAreUnique-prop : IsSet (List Param) → IsProp LeftAreUnique
LeftAreUnique-prop params_set = hlevel (props, params_set)

-- the parameters that are left, which nothing but clauses sees
abbrev pub Left : List ℕ → Option Token → Type 0
Left input next = (ps : List Param) × ∥ AreLeft input next ps ∥₁

-- what is known of two of them is that they are one
pub left_once : IsSet (List Param) → LeftAreUnique → (input : List ℕ) (next : Option Token)
    (one two : Left input next) → one.0 ≡ two.0
left_once params_set unique input next one two =
    ∥∥₁_elim one.1 (params_set one.0 two.0)
    (λ a. ∥∥₁_elim two.1 (params_set one.0 two.0) (λ b. unique input next one.0 two.0 a b))

-- so they are kept in one way
pub Left-prop : IsSet (List Param) → LeftAreUnique → (input : List ℕ) (next : Option Token)
    → IsProp (Left input next)
Left-prop params_set unique input next one two =
    let same : one.0 ≡ two.0 = left_once params_set unique input next one two in
    λ i. (
      same i,
      is_prop→PathP (λ j. ∥ AreLeft input next (same j) ∥₁) (λ j. ∥∥₁_prop) one.1 two.1 i,
    )
