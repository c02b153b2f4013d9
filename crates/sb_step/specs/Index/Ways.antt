-- The ways on from a state, as a table: what is asked of the next lexeme, and where it leads.
use Rattle.std.specs.Prelude.{ℕ, Bool, if◌then◌else◌, List, [], ◌∷◌, Option, Some, None}
use Rattle.sb_lex.specs.declared.kinds.Mark.{Mark}
use Rattle.sb_lex.specs.declared.kinds.Word.{Word}
use Rattle.sb_lex.specs.declared.kinds.Word.TheVariants as word
use Rattle.sb_step.specs.Lexemes.{Lexeme, is_mark, is_value}
use Rattle.sb_step.specs.KindTests.{is_first, is_last, is_keyword, is_name, is_the}

-- what a lexeme may be asked to be: one of the two words, the keyword of these letters, any keyword,
-- a name, a mark, or a value
pub data Asked : Type 0 where
  the_word : Word → Asked
  the : List ℕ → Asked
  a_keyword : Asked
  a_name : Asked
  the_mark : Mark → Asked
  a_value : Asked

-- whether it is that
abbrev pub passes : Asked → Lexeme → Bool
passes (the_word word.First) x = is_first x.token.kind
passes (the_word word.Last) x = is_last x.token.kind
passes (the letters) x = is_the letters x
passes a_keyword x = is_keyword x.token.kind
passes a_name x = is_name x.token.kind
passes (the_mark m) x = is_mark m x.token.kind
passes a_value x = is_value x.token.kind

-- what is asked, and where it leads
pub record Way (A : Type 0) : Type 0 where
  pub asked : Asked
  pub to : A

-- the first of the ways whose lexeme it is
abbrev pub pick : {A : Type 0} → List (Way A) → Lexeme → Option A
pick [] x = None
pick (way ∷ ways) x = if passes way.asked x then Some way.to else pick ways x

-- a way, written so that a table of them can be read
infixr 70 ◌⇢◌
abbrev pub ◌⇢◌ : {A : Type 0} → Asked → A → Way A
asked ⇢ to = record { asked = asked; to = to }
