-- Which file an input is, and where it has its fault.
use Rattle.std.specs.Prelude.{◌≡◌, ℕ, ◌⊎◌, List, [], ◌∷◌, ◌++◌, length, Option, Some, None}
use Rattle.sb_lex.specs.declared.kinds.Token.{Token}
use Rattle.sb_lex.specs.declared.kinds.BadToken.{BadToken}
use Rattle.sb_lex.specs.Tokens.{AreTokens}
use Rattle.sb_step.specs.Lexemes.{Lexeme, lexeme_at, lexemes}
use Rattle.sb_step.specs.Grammar.{File, IsText}

-- the input is a text, and describes this file
pub record IsFile (input : List ℕ) (file : File) : Type 0 where
  pub tokens : List Token
  pub are : AreTokens input tokens None
  pub text : IsText (lexemes input tokens) file

-- some text begins with these lexemes
pub record BeginsText (xs : List Lexeme) : Type 0 where
  pub others : List Lexeme
  pub file : File
  pub text : IsText (xs ++ others) file

-- what stands at a place: a token, a byte with which none begins, or the end of the input
abbrev pub place_of : List ℕ → List Token → Option BadToken → ℕ
place_of input (t ∷ after) bad = t.start
place_of input [] (Some bad) = bad.0
place_of input [] None = length input

-- a text begins with these tokens followed by what stands there
abbrev pub GoesOn : List ℕ → List Token → List Token → Option BadToken → Type 0
GoesOn input before (t ∷ after) bad = BeginsText (lexemes input before ++ lexeme_at input t ∷ [])
GoesOn input before [] (Some bad) = ⊥
GoesOn input before [] None = (file : File) × IsText (lexemes input before) file

-- The fault of the input: the tokens before the place begin some text, and no text begins with them
-- followed by what stands there.
pub record IsFaultAt (input : List ℕ) (place : ℕ) : Type 0 where
  pub before : List Token
  pub after : List Token
  pub bad : Option BadToken
  pub are : AreTokens input (before ++ after) bad
  pub at : place_of input after bad ≡ place
  pub begins : BeginsText (lexemes input before)
  pub refused : GoesOn input before after bad → ⊥

-- Laws

-- each input is a file or has a fault
abbrev pub EachIsFileOrFault : Type 0
EachIsFileOrFault =
    (input : List ℕ) → ((file : File) × IsFile input file) ⊎ ((place : ℕ) × IsFaultAt input place)

-- an input is one file at most
abbrev pub FilesAreUnique : Type 0
FilesAreUnique = (input : List ℕ) (file other : File) → IsFile input file → IsFile input other
    → file ≡ other

-- it has one fault at most
abbrev pub FaultsAreUnique : Type 0
FaultsAreUnique = (input : List ℕ) (place other : ℕ) → IsFaultAt input place
    → IsFaultAt input other → place ≡ other

-- and not both
abbrev pub NoFileHasAFault : Type 0
NoFileHasAFault = (input : List ℕ) (file : File) (place : ℕ) → IsFile input file
    → IsFaultAt input place → ⊥
