-- On an output that was just created stands exactly what was written to it.
use Rattle.std.proofs.Common.{◌≡◌, ◌++◌, ◌∙◌, ℕ, List, [], length, take, Option, Some, None, Result}
use Rattle.std.proofs.Common.{Ok, Err, is_some, OnOk, OnErr, subst, refl, ap}
use Rattle.std.proofs.Math.Nat.{sub-zero}
use Rattle.std.specs.Option.{ForSome}
use Rattle.sb_shelf.specs.WholeTexts.{AppendsFirstOf}

-- an output is told after it was created exactly where it was told before, and is empty then
pub empty_first : (old mid : Option (List ℕ)) → is_some mid ≡ is_some old
    → ForSome old (λ _. mid ≡ Some []) → ForSome mid (λ bytes. bytes ≡ [])
empty_first None None tells empty = λ bytes told. absurd (cc told)
empty_first None (Some m) tells empty = absurd (cc tells)
empty_first (Some b) mid tells empty = λ bytes told.
    let emptied = empty b refl in
    cc (told, emptied)

-- what was told stays told
told_before : (mid new : Option (List ℕ)) (bytes : List ℕ)
    → is_some new ≡ is_some mid → new ≡ Some bytes
    → (before : List ℕ) × (mid ≡ Some before)
told_before (Some before) new bytes tells told = (before, refl)
told_before None new bytes tells told = absurd (cc (tells, ap is_some told))

-- the whole text stands there
pub whole_written : {X E : Type 0} (r : Result X E) (mid new : Option (List ℕ)) (text : List ℕ)
    → is_some new ≡ is_some mid → ForSome mid (λ bytes. bytes ≡ [])
    → OnOk r (ForSome mid (λ before. new ≡ Some (before ++ text)))
    → OnOk r (ForSome new (λ bytes. bytes ≡ text))
whole_written (Err e) mid new text tells empty written = tt
whole_written (Ok x) mid new text tells empty written = λ bytes told.
    let before = told_before mid new bytes tells told in
    let none = empty before.0 before.1 in
    let all = written before.0 before.1 in
    cc (told, none, all)

-- or a first part of it
pub part_written : {X E : Type 0} (r : Result X E) (mid new : Option (List ℕ)) (text : List ℕ)
    → is_some new ≡ is_some mid → ForSome mid (λ bytes. bytes ≡ [])
    → OnErr r (ForSome mid (λ before. ForSome new (AppendsFirstOf text before)))
    → OnErr r (ForSome new (λ bytes. bytes ≡ take (length bytes) text))
part_written (Ok x) mid new text tells empty part = tt
part_written (Err e) mid new text tells empty part = λ bytes told.
    let before = told_before mid new bytes tells told in
    let none = empty before.0 before.1 in
    let some = subst (λ l. AppendsFirstOf text l bytes) none (part before.0 before.1 bytes told) in
    some ∙ ap (λ n. take n text) (sub-zero (length bytes))

-- what holds after a failed call holds under any premise
pub under_premise : {X E : Type 0} (P Q : Type 0) (r : Result X E) → OnErr r Q → OnErr r (P → Q)
under_premise P Q (Ok x) q = tt
under_premise P Q (Err e) q = λ p. q
