-- What the call for the parameters of an instance answers, and what is held where it reads.
use Rattle.std.specs.Prelude.{◌≡◌, ◌≢◌, ℕ, ◌≤◌, nat_eq, List, [], length, None, Result, Ok, Err}
use Rattle.std.specs.Map.{lookup}
use Rattle.sb_lex.specs.Tokens.{Reading}
use Rattle.sb_step.specs.declared.error.ParamsError.{ParamsError}
use Rattle.sb_step.specs.declared.error.ParamsError.TheVariants as params_error
use Rattle.sb_step.specs.declared.step_file.records.Form.{Form}
use Rattle.sb_step.specs.declared.step_file.records.Form.TheVariants as form
use Rattle.sb_step.specs.declared.parameters.param.Param.{Param}
use Rattle.sb_step.specs.Lexemes.{Lexeme}
use Rattle.sb_step.specs.Indexed.{Indexed}
use Rattle.sb_step.specs.Params.Parameters.{AreParameters, HasParameters}
use Rattle.sb_step.specs.Params.Readers.{AreAhead, Awaits}

-- the answer is so; want of memory may come at any time
abbrev pub IsParamsAnswer : Indexed → ℕ → Result (List Param) ParamsError → Type 0
IsParamsAnswer indexed number (Ok ps) = HasParameters indexed number ps
IsParamsAnswer indexed number (Err (params_error.Missing n)) =
    (n ≡ number) × (lookup (nat_eq number) indexed.file.instances ≡ None)
IsParamsAnswer indexed number (Err params_error.NoMemory) = Unit {0}

-- there was memory enough for an answer
abbrev pub HasMemory : Result (List Param) ParamsError → Type 0
HasMemory answer = answer ≢ Err params_error.NoMemory

-- a reader that begins at this byte
abbrev pub reader_at : List ℕ → ℕ → Reading
reader_at input place = record { input = input; place = place }

-- a parameter list stands behind this byte
pub record AwaitsList (input : List ℕ) (place : ℕ) : Type 0 where
  pub within : place ≤ length input
  pub awaits : Awaits AreParameters (reader_at input place)

-- it says these parameters and no others
abbrev pub ListSays : List ℕ → ℕ → List Param → Type 0
ListSays input place ps =
    (qs : List Param) (xs rest : List Lexeme) → AreAhead (reader_at input place) xs
    → AreParameters qs xs rest → qs ≡ ps

-- where a record is simple, its list stands behind its keyword
abbrev pub AwaitsByForm : List ℕ → Form → Type 0
AwaitsByForm input (form.Simple end) = AwaitsList input end
AwaitsByForm input form.Complex = Unit {0}

-- and its parameters are what that says; a complex one has none
abbrev pub SaysByForm : List ℕ → Form → List Param → Type 0
SaysByForm input (form.Simple end) ps = ListSays input end ps
SaysByForm input form.Complex ps = ps ≡ []

-- the call gives such parameters, or there was no memory
abbrev pub Gives : (List Param → Type 0) → Result (List Param) ParamsError → Type 0
Gives P (Ok ps) = P ps
Gives P (Err (params_error.Missing n)) = ⊥
Gives P (Err params_error.NoMemory) = Unit {0}
