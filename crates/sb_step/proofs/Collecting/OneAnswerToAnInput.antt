-- To an input there is one answer, but for want of memory.
use Rattle.sb_step.proofs.Names.{File, IsFile, HasDoubled, ◌≡◌, ◌↔◌, ℕ, List, Result, Ok, Err, refl, sym, ap, ◌∙◌, subst, arith, StepError, Record, FilesAreUnique, FaultsAreUnique, NoFileHasAFault, AreApart, IsLeastTwice, Indexed, IsAnswer, IsInTime}
use Rattle.sb_step.specs.declared.error.StepError.TheVariants as step_error

-- no number is the least of those used twice where none is used twice
apart_or_doubled : (n : ℕ) (instances : List (ℕ × Record)) → AreApart instances
    → IsLeastTwice n instances → ⊥
apart_or_doubled n instances apart least =
    let low = apart n in omega (arith, low, least.twice)

least_is_one : (m n : ℕ) (instances : List (ℕ × Record)) → IsLeastTwice m instances
    → IsLeastTwice n instances → m ≡ n
least_is_one m n instances one two =
    let below = one.least n two.twice in
    let above = two.least m one.twice in
    omega (arith, below, above)

module _ (one_file : FilesAreUnique) (one_fault : FaultsAreUnique)
    (not_both : NoFileHasAFault) where
  -- the number is the least of those used twice in any file that the input is
  doubled_in : (input : List ℕ) (n : ℕ) (d : HasDoubled input n) (f : File) → IsFile input f
      → IsLeastTwice n f.instances
  doubled_in input n d f is =
      subst (λ g. IsLeastTwice n g.instances) (one_file input d.file f d.is is) d.least

  -- two answers are one
  answers_are_one : (input : List ℕ) (a b : Result Indexed StepError) → IsInTime a → IsInTime b
      → IsAnswer input a → IsAnswer input b → a ≡ b
  answers_are_one input (Ok f) (Ok g) early soon one two =
      let file = one_file input f.file g.file one.file two.file in
      let inputs = one.input_is ∙ sym two.input_is in
      ap Ok (λ i. record { input = inputs i; file = file i })
  answers_are_one input (Ok f) (Err (step_error.Syntax k)) early soon one two =
      absurd (not_both input f.file k one.file two)
  answers_are_one input (Ok f) (Err (step_error.Duplicate n)) early soon one two =
      absurd (apart_or_doubled n f.file.instances one.apart (doubled_in input n two f.file one.file))
  answers_are_one input (Ok f) (Err step_error.NoMemory) early soon one two = absurd (soon refl)
  answers_are_one input (Err (step_error.Syntax k)) (Ok f) early soon one two =
      absurd (not_both input f.file k two.file one)
  answers_are_one input (Err (step_error.Syntax k)) (Err (step_error.Syntax l)) early soon one two =
      ap (λ p. Err (step_error.Syntax p)) (one_fault input k l one two)
  answers_are_one input (Err (step_error.Syntax k)) (Err (step_error.Duplicate n)) early soon one
      two = absurd (not_both input two.file k two.is one)
  answers_are_one input (Err (step_error.Syntax k)) (Err step_error.NoMemory) early soon one two =
      absurd (soon refl)
  answers_are_one input (Err (step_error.Duplicate n)) (Ok f) early soon one two =
      absurd (apart_or_doubled n f.file.instances two.apart (doubled_in input n one f.file two.file))
  answers_are_one input (Err (step_error.Duplicate n)) (Err (step_error.Syntax k)) early soon one
      two = absurd (not_both input one.file k one.is two)
  answers_are_one input (Err (step_error.Duplicate n)) (Err (step_error.Duplicate m)) early soon one
      two =
      ap (λ p. Err (step_error.Duplicate p)) (least_is_one n m two.file.instances
      (doubled_in input n one two.file two.is) two.least)
  answers_are_one input (Err (step_error.Duplicate n)) (Err step_error.NoMemory) early soon one
      two = absurd (soon refl)
  answers_are_one input (Err step_error.NoMemory) b early soon one two = absurd (early refl)

  -- an answer that is so is the answer exactly where it is so
  pub answer_pins : (input : List ℕ) (a b : Result Indexed StepError) → IsAnswer input a
      → IsInTime a → IsInTime b → (a ≡ b) ↔ IsAnswer input b
  answer_pins input a b is early soon = (
    λ same. subst (IsAnswer input) same is,
    λ also. answers_are_one input a b early soon is also,
  )
