-- What the index of an input says of it; an input which cannot be indexed is refused for this.
use Rattle.std.proofs.Common.{◌≡◌, ◌≤◌, ◌↔◌, ℕ, List, length, Result, Ok, Err, refl}
use Rattle.sb_step.specs.Indexed.{Indexed}
use Rattle.sb_step.specs.IndexAnswers.{IsIndexed, HasDoubled, IsAnswer, IsInTime}
use Rattle.sb_step.specs.Faults.{IsFaultAt}
use Rattle.sb_step.specs.declared.error.StepError.{StepError}
use Rattle.sb_step.specs.declared.error.StepError.TheVariants as step_error
use Rattle.sb_form.specs.FirstForm.{IsFormOf}
use Rattle.sb_form.specs.declared.matcher.FirstForm.{FirstForm}
use Rattle.sb_shelf.specs.WholeTexts.{longest_input}
use Rattle.sb_run.specs.Promises.{IsExchangeText, IsRefused}
use Rattle.sb_run.specs.Judgements.{IsRead, IsJudged, refusal_of}
use Rattle.sb_run.specs.declared.answer.Code.{Code}
use Rattle.sb_run.specs.declared.answer.Code.TheVariants as code

-- what is known of an answer of the index
pub record IsOfIndex (input : List ℕ) (answer : Result Indexed StepError) : Type 0 where
  pub is : IsAnswer input answer
  pub file : (indexed : Indexed) → IsInTime answer → (answer ≡ Ok indexed) ↔ IsIndexed input indexed
  pub syntax : (place : ℕ) → IsInTime answer
      → (answer ≡ Err (step_error.Syntax place)) ↔ IsFaultAt input place
  pub duplicate : (n : ℕ) → IsInTime answer
      → (answer ≡ Err (step_error.Duplicate n)) ↔ HasDoubled input n

-- an input that was indexed has no fault, and no number is used twice
pub indexed_is_read : (input : List ℕ) (indexed : Indexed) → IsOfIndex input (Ok indexed)
    → IsRead input
indexed_is_read input indexed says =
    let in_time : IsInTime (Ok indexed) = λ none. cc in
    record {
      text = (indexed, says.is);
      no_fault = λ place fault. let other = (says.syntax place in_time).1 fault in cc;
      no_double = λ n doubled. let other = (says.duplicate n in_time).1 doubled in cc;
    }

module _
    (texts : (form : FirstForm) (input : List ℕ) → IsFormOf form input → IsExchangeText input) where
  -- an input of the form has no fault
  no_text : (input : List ℕ) (error : StepError) → IsOfIndex input (Err error)
      → IsInTime (Err error)
      → IsExchangeText input → ⊥
  no_text input error says in_time text = let other = (says.file text.0 in_time).1 text.1 in cc

  no_form : (input : List ℕ) (error : StepError) → IsOfIndex input (Err error)
      → IsInTime (Err error)
      → (form : FirstForm) → IsFormOf form input → ⊥
  no_form input error says in_time form is = no_text input error says in_time (texts form input is)

  -- it is refused for no reason but that a number is used twice
  refused_twice : (input : List ℕ) (error : StepError) → IsOfIndex input (Err error)
      → IsInTime (Err error)
      → (m : ℕ) (why : Code) → IsRefused input m why
      → (why ≡ code.Duplicate) × (error ≡ step_error.Duplicate m)
  refused_twice input error says in_time m code.Duplicate r =
      let same = (says.duplicate m in_time).1 r in (refl, cc)
  refused_twice input error says in_time m code.Shape r =
      absurd (no_form input error says in_time r.1.0 r.1.1)
  refused_twice input error says in_time m code.Range r =
      absurd (no_form input error says in_time r.1.0 r.1.1)
  refused_twice input error says in_time m code.OffGrid r =
      absurd (no_form input error says in_time r.1.0 r.1.1)
  refused_twice input error says in_time m code.Unbuilt r =
      absurd (no_text input error says in_time r.1)

  -- what the index says of an input that it refuses is why it is refused
  pub fault_is_judged : (input : List ℕ) (error : StepError) → length input ≤ longest_input
      → IsOfIndex input (Err error) → IsJudged input (refusal_of error)
  fault_is_judged input (step_error.Syntax place) short says =
      let error = step_error.Syntax place in
      let in_time : IsInTime (Err error) = λ none. cc in
      record {
        within = short;
        fault = says.is;
        only = λ other fault. let same = (says.syntax other in_time).1 fault in cc;
        not_refused = λ m why r.
            let twice = (refused_twice input error says in_time m why r).1 in cc;
        unsound = λ form sound. no_form input error says in_time form sound.spelled;
      }
  fault_is_judged input (step_error.Duplicate n) short says =
      let error = step_error.Duplicate n in
      let in_time : IsInTime (Err error) = λ none. cc in
      record {
        within = short;
        no_fault = λ place fault. let other = (says.syntax place in_time).1 fault in cc;
        refused = says.is;
        only = λ m why r. let twice = refused_twice input error says in_time m why r in cc;
        unsound = λ form sound. no_form input error says in_time form sound.spelled;
      }
  fault_is_judged input step_error.NoMemory short says = tt
