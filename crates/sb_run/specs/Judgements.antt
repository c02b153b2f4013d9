-- What the judgement of an input says.
use Rattle.std.specs.Prelude.{◌≡◌, ◌⊎◌, ◌<◌, ◌≤◌, ℕ, true, List, [], ◌∷◌, length, take, Option}
use Rattle.std.specs.Option.{ForSome}
use Rattle.sb_shelf.specs.World.{World, Rose, also_asked}
use Rattle.sb_shelf.specs.declared.shelf.Out.TheVariants.{Ifc, Idf, Report}
use Rattle.sb_step.specs.IndexAnswers.{HasDoubled}
use Rattle.sb_step.specs.Faults.{IsFaultAt}
use Rattle.sb_step.specs.declared.error.StepError.{StepError}
use Rattle.sb_step.specs.declared.error.StepError.TheVariants as step_error
use Rattle.sb_box.specs.declared.extent.Extent.{Extent}
use Rattle.sb_form.specs.FirstForm.{IsFormOf}
use Rattle.sb_form.specs.Meaning.{model_of}
use Rattle.sb_form.specs.declared.matcher.FirstForm.{FirstForm}
use Rattle.sb_form.specs.declared.meaning.Defect.{Defect}
use Rattle.sb_form.specs.declared.meaning.Defect.TheVariants as defect
use Rattle.sb_report.specs.Report.{report_of}
use Rattle.sb_shelf.specs.WholeTexts.{longest_input}
use Rattle.sb_run.specs.Promises.{IsExchangeText, IsSoundForm, IsListOf, IsRefused}
use Rattle.sb_run.specs.declared.answer.Answer.{Answer}
use Rattle.sb_run.specs.declared.answer.Answer.TheVariants.{Done, ReadFault, TooLong, Syntax}
use Rattle.sb_run.specs.declared.answer.Answer.TheVariants.{Refused, WriteFault, NoMemory}
use Rattle.sb_run.specs.declared.answer.Code.{Code}
use Rattle.sb_run.specs.declared.answer.Code.TheVariants as code
use Rattle.sb_run.specs.declared.judgement.Ready.{Ready}

-- the code of a defect of the form
abbrev pub code_of : Defect → Code
code_of defect.Shape = code.Shape
code_of defect.Range = code.Range
code_of defect.OffGrid = code.OffGrid

-- why an input that cannot be indexed is refused
abbrev pub refusal_of : StepError → Answer
refusal_of (step_error.Syntax place) = Syntax place
refusal_of (step_error.Duplicate n) = Refused n code.Duplicate
refusal_of step_error.NoMemory = NoMemory

-- the input is an exchange text: it has no fault, and no number is used twice
pub record IsRead (input : List ℕ) : Type 0 where
  pub text : IsExchangeText input
  pub no_fault : (place : ℕ) → IsFaultAt input place → ⊥
  pub no_double : (n : ℕ) → HasDoubled input n → ⊥

-- no other form is spelled by the input
abbrev pub IsSole : FirstForm → List ℕ → Type 0
IsSole form input = (other : FirstForm) → IsFormOf other input → other ≡ form

-- the input has its fault at this byte and at no other, is refused for no reason, and no box
-- without defect is spelled by it
pub record IsFaultyOnly (input : List ℕ) (place : ℕ) : Type 0 where
  pub within : length input ≤ longest_input
  pub fault : IsFaultAt input place
  pub only : (other : ℕ) → IsFaultAt input other → other ≡ place
  pub not_refused : (m : ℕ) (why : Code) → IsRefused input m why → ⊥
  pub unsound : (form : FirstForm) → IsSoundForm form input → ⊥

-- the input has no fault, is refused for this reason and no other, and no box without defect is
-- spelled by it
pub record IsRefusedOnly (input : List ℕ) (n : ℕ) (why : Code) : Type 0 where
  pub within : length input ≤ longest_input
  pub no_fault : (place : ℕ) → IsFaultAt input place → ⊥
  pub refused : IsRefused input n why
  pub only : (m : ℕ) (other : Code) → IsRefused input m other → Refused m other ≡ Refused n why
  pub unsound : (form : FirstForm) → IsSoundForm form input → ⊥

-- the input is a form without defect, and this is its list and its report
pub record IsReady (input : List ℕ) (ready : Ready) : Type 0 where
  pub within : length input ≤ longest_input
  pub read : IsRead input
  pub form : FirstForm
  pub extent : Extent
  pub sound : IsSoundForm form input
  pub sole : IsSole form input
  pub list_is : IsListOf form extent ready.list
  pub report_is : ready.report.items ≡ report_of (model_of form extent) ready.list

-- an input that was read has this fault or is refused for this reason, or there was no memory
abbrev pub IsJudged : List ℕ → Answer → Type 0
IsJudged input (Syntax place) = IsFaultyOnly input place
IsJudged input (Refused n why) = IsRefusedOnly input n why
IsJudged input NoMemory = Unit {0}
IsJudged input _ = ⊥

-- no answer but these comes before anything is created and after the words, each with its cause
abbrev pub IsRefusal : Option (List ℕ) → Answer → World → World → Type 0
IsRefusal told ReadFault old new = Rose old.read_faults new.read_faults
IsRefusal told TooLong old new = ForSome told (λ input. longest_input < length input)
IsRefusal told (Syntax place) old new = ForSome told (λ input. IsFaultyOnly input place)
IsRefusal told (Refused n why) old new = ForSome told (λ input. IsRefusedOnly input n why)
IsRefusal told NoMemory old new = Unit {0}
IsRefusal told _ old new = ⊥

-- the answer, or want of memory in its place
abbrev pub IsSameOrNoMemory : Answer → Answer → Type 0
IsSameOrNoMemory answer result = (result ≡ answer) ⊎ (result ≡ NoMemory)

-- After what was ready was put: the answer is Done with its list, or a fault of writing.
abbrev pub IsFinished : Ready → Answer → World → World → Type 0
IsFinished ready (Done list) old new =
    (list ≡ ready.list) × ForSome (new.bytes Report) (λ bytes. bytes ≡ ready.report.items)
IsFinished ready WriteFault old new =
    Rose old.file_faults new.file_faults
    × (new.is_created Report ≡ true → ForSome (new.bytes Report)
    (λ bytes. bytes ≡ take (length bytes) ready.report.items))
IsFinished ready _ old new = ⊥

-- Of the outputs only the report and the message have changed, and only the report was asked for,
-- once and under this path. What can be read is as it was.
pub record OnlyReportAndMessage (path : List ℕ) (old new : World) : Type 0 where
  pub ifc : new.is_created Ifc ≡ old.is_created Ifc
  pub idf : new.is_created Idf ≡ old.is_created Idf
  pub asked_inputs : new.asked_inputs ≡ old.asked_inputs
  pub asked_outputs : new.asked_outputs
      ≡ also_asked old.asked_outputs (record { out = Report; path = path } ∷ [])
  pub read_faults : new.read_faults ≡ old.read_faults
  pub file_faults : old.file_faults ≤ new.file_faults
