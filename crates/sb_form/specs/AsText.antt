-- The first form among the exchange texts.
use Rattle.std.specs.Prelude.{ℕ, List}
use Rattle.sb_step.specs.Indexed.{Indexed}
use Rattle.sb_step.specs.IndexAnswers.{IsIndexed}
use Rattle.sb_form.specs.FirstForm.{IsFormOf}
use Rattle.sb_form.specs.declared.matcher.FirstForm.{FirstForm}

-- every input of the first form is an exchange text, and no number is used twice in it
abbrev pub FormsAreTexts : Type 0
FormsAreTexts =
    (form : FirstForm) (input : List ℕ) → IsFormOf form input
    → (indexed : Indexed) × IsIndexed input indexed
