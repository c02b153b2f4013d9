-- How far a text was read, and what its reading answers.
use Rattle.std.specs.Prelude.{◌≡◌, ℕ, List, [], ◌∷◌, ◌++◌, length, Option, Some, None, Result, Ok, Err}
use Rattle.sb_lex.specs.declared.kinds.Token.{Token}
use Rattle.sb_lex.specs.Tokens.{IsNext}
use Rattle.sb_step.specs.declared.error.StepError.{StepError}
use Rattle.sb_step.specs.declared.error.StepError.TheVariants as step_error
use Rattle.sb_step.specs.declared.indexing.states.Event.{Event}
use Rattle.sb_step.specs.declared.indexing.collected.Collected.{Collected}
use Rattle.sb_step.specs.Lexemes.{Lexeme, lexemes}
use Rattle.sb_step.specs.Grammar.{File}
use Rattle.sb_step.specs.Faults.{IsFile, IsFaultAt}
use Rattle.sb_step.specs.Records.SchemaReading.{SchemaSays}
use Rattle.sb_step.specs.Index.StoredInstances.{AreStored}
use Rattle.sb_step.specs.Index.Turns.{State, next_turn, start, run}
use Rattle.sb_step.specs.Index.Collects.{AreCollected}

-- the tokens from one place to another, the last of which ends there
abbrev pub TokensTo : List ℕ → ℕ → List Token → ℕ → Type 0
TokensTo input from [] to = from ≡ to
TokensTo input from (t ∷ tokens) to = IsNext input from t × TokensTo input t.end tokens to

-- the tokens up to the place were read and led to the state, and what was found was collected
pub record Progress (input : List ℕ) (place : ℕ) (s : State) (c : Collected) : Type 0 where
  pub before : List Token
  pub events : List Event
  pub tokens : TokensTo input 0 before place
  pub reads : run (lexemes input before) start ≡ Some (record { state = s; events = events })
  pub collected : AreCollected input events c

-- a lexeme was accepted
pub record Accepted (input : List ℕ) (s t : State) (x : Lexeme) (c d : Collected) : Type 0 where
  pub event : Event
  pub turns : next_turn s x ≡ Some (record { state = t; event = event })
  pub collects : (events : List Event) → AreCollected input events c
      → AreCollected input (events ++ event ∷ []) d

-- what the answer to a lexeme says
abbrev pub Accepts : List ℕ → State → State → Lexeme → Collected → Collected
    → Result (Unit {0}) StepError → Type 0
Accepts input s t x c d (Ok done) = Accepted input s t x c d
Accepts input s t x c d (Err (step_error.Syntax place)) =
    (place ≡ x.token.start) × (next_turn s x ≡ None)
Accepts input s t x c d (Err (step_error.Duplicate n)) = ⊥
Accepts input s t x c d (Err step_error.NoMemory) = Unit {0}

-- the input is a file whose data ends there, and this is what is kept of it
pub record IsFound (input : List ℕ) (data_end : ℕ) (c : Collected) : Type 0 where
  pub file : File
  pub is : IsFile input file
  pub ends : file.data_end ≡ data_end
  pub schema : SchemaSays input file.header c.schema
  pub instances : AreStored file.instances c.instances

-- what was read at the end of the input
abbrev pub IsRead : List ℕ → Option ℕ → Collected → Type 0
IsRead input None c = IsFaultAt input (length input)
IsRead input (Some k) c = IsFound input k c
