-- What a run promises. `old` and `new` are the world before the run and after it.
use Rattle.std.specs.Prelude.{◌≡◌, ◌≤◌, ◌++◌, ℕ, false, true, List, [], ◌∷◌, length, take}
use Rattle.std.specs.Prelude.{Option, Some, None}
use Rattle.std.specs.Option.{ForSome}
use Rattle.sb_shelf.specs.World.{World, AskedOutput, Rose}
use Rattle.sb_shelf.specs.WholeTexts.{AppendsFirstOf}
use Rattle.sb_shelf.specs.declared.shelf.Out.TheVariants.{Ifc, Idf, Report, Said}
use Rattle.sb_step.specs.Indexed.{Indexed}
use Rattle.sb_step.specs.IndexAnswers.{IsIndexed, HasDoubled}
use Rattle.sb_model.specs.declared.boundary.Boundary.{Boundary}
use Rattle.sb_model.specs.Boundaries.Order.{IsInOrder}
use Rattle.sb_model.specs.Boundaries.Sound as model
use Rattle.sb_box.specs.BoxList.{IsBoxList}
use Rattle.sb_box.specs.declared.extent.Extent.{Extent}
use Rattle.sb_form.specs.FirstForm.{IsFormOf}
use Rattle.sb_form.specs.Meaning.{defect_of, model_of, space_number, IsExtentOf}
use Rattle.sb_form.specs.declared.matcher.FirstForm.{FirstForm}
use Rattle.sb_form.specs.declared.meaning.Defect.{Defect}
use Rattle.sb_form.specs.declared.meaning.Defect.TheVariants as defect
use Rattle.sb_report.specs.Report.{report_of}
use Rattle.sb_run.specs.Command.{Command, command}
use Rattle.sb_run.specs.declared.answer.Answer.{Answer}
use Rattle.sb_run.specs.declared.answer.Answer.TheVariants.{Done, WriteFault, NoMemory}
use Rattle.sb_run.specs.declared.answer.Code.{Code}
use Rattle.sb_run.specs.declared.answer.Code.TheVariants as code

-- the words are a command, and these are the bytes under its model, which the shelf tells
pub record IsInput (words : List (List ℕ)) (old : World) (bytes : List ℕ) : Type 0 where
  pub asked : Command
  pub is_asked : command words ≡ Some asked
  pub is_told : old.under asked.model ≡ Some bytes

-- what a run asks of `open`: the model of the command, once, and nothing where there is none
abbrev pub inputs_of : Option Command → List (List ℕ)
inputs_of (Some asked) = asked.model ∷ []
inputs_of None = []

-- What a run with this answer asks of `create`: the report of the command, once; nothing where the
-- words are no command, or the answer comes before anything is created.
abbrev pub outputs_of : Option Command → Answer → List AskedOutput
outputs_of (Some asked) (Done list) = record { out = Report; path = asked.report } ∷ []
outputs_of (Some asked) WriteFault = record { out = Report; path = asked.report } ∷ []
outputs_of _ _ = []

-- the IFC text and the IDF are not written yet
pub record OnlyReport (s : World) : Type 0 where
  pub no_ifc : s.is_created Ifc ≡ false
  pub no_idf : s.is_created Idf ≡ false

-- the input is the first form with these numbers, and they have no defect
pub record IsSoundForm (form : FirstForm) (input : List ℕ) : Type 0 where
  pub spelled : IsFormOf form input
  pub no_defect : defect_of form ≡ None

-- the input is the first form of some numbers, and this is their first defect
abbrev pub HasDefect : List ℕ → Defect → Type 0
HasDefect input d = (form : FirstForm) × IsFormOf form input × (defect_of form ≡ Some d)

-- the input is an exchange text in which no number is used twice
abbrev pub IsExchangeText : List ℕ → Type 0
IsExchangeText input = (indexed : Indexed) × IsIndexed input indexed

-- why an input is refused: the least number that is used twice in its text, the first defect of the
-- space of its form, or that it is an exchange text and not of the form
abbrev pub IsRefused : List ℕ → ℕ → Code → Type 0
IsRefused input n code.Duplicate = HasDoubled input n
IsRefused input n code.Shape = (n ≡ space_number) × HasDefect input defect.Shape
IsRefused input n code.Range = (n ≡ space_number) × HasDefect input defect.Range
IsRefused input n code.OffGrid = (n ≡ space_number) × HasDefect input defect.OffGrid
IsRefused input n code.Unbuilt =
    (n ≡ 0) × IsExchangeText input × ((form : FirstForm) → IsFormOf form input → ⊥)

-- the list of the model that the form means, whose box this is: it is sound for this model and in
-- order, and has the boundaries of the box
pub record IsListOf (form : FirstForm) (extent : Extent) (list : List Boundary) : Type 0 where
  pub is_extent : IsExtentOf form extent
  pub sound : model.IsSound (model_of form extent) list
  pub in_order : IsInOrder list
  pub is_list : IsBoxList space_number extent list

-- After Done: the input is a form without defect, the list is that of its box, and on the report
-- stands the text of the list for the model of the input.
pub record Reports (input : List ℕ) (list : List Boundary) (new : World) : Type 0 where
  pub form : FirstForm
  pub extent : Extent
  pub sound : IsSoundForm form input
  pub list_is : IsListOf form extent list
  pub written : ForSome (new.bytes Report) (λ bytes. bytes ≡ report_of (model_of form extent) list)

-- After a fault of writing: where the report was created, a first part of that text stands on it.
pub record ReportsInPart (input : List ℕ) (new : World) : Type 0 where
  pub form : FirstForm
  pub extent : Extent
  pub sound : IsSoundForm form input
  pub list : List Boundary
  pub list_is : IsListOf form extent list
  pub written : new.is_created Report ≡ true
      → ForSome (new.bytes Report)
      (λ bytes. bytes ≡ take (length bytes) (report_of (model_of form extent) list))

-- what stands on the report after an answer, for an input
abbrev pub ReportStands : List ℕ → World → Answer → Type 0
ReportStands input new (Done list) = Reports input list new
ReportStands input new WriteFault = ReportsInPart input new
ReportStands input new _ = Unit {0}

-- A text is said: it stands behind what was said before. Only where the count of failed messages
-- rose may a first part of it stand there.
pub record Says (text : List ℕ) (old new : World) : Type 0 where
  pub no_fall : old.said_faults ≤ new.said_faults
  pub in_part : ForSome (old.bytes Said)
      (λ before. ForSome (new.bytes Said) (AppendsFirstOf text before))
  pub whole : (Rose old.said_faults new.said_faults → ⊥)
      → ForSome (old.bytes Said) (λ before. new.bytes Said ≡ Some (before ++ text))

-- the answer is Done or want of memory
abbrev pub IsDoneOrNoMemory : Answer → Type 0
IsDoneOrNoMemory (Done list) = Unit {0}
IsDoneOrNoMemory NoMemory = Unit {0}
IsDoneOrNoMemory _ = ⊥
