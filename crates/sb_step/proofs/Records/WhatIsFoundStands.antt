-- What is found in a list stands there: the only item that passes a test, and what is looked up.
use Rattle.sb_step.proofs.Names.{◌≡◌, ℕ, Bool, true, false, List, [], ◌∷◌, Some, sym, ap, ◌∙◌, inl, inr, ⊎_elim, cond, filter, lookup, cases_Bool, same_Some, none-some, Stands}
use Rattle.sb_step.proofs.KindsSay.{choice}

-- the only item that passes stands in the list
pub passes_among : {A : Type 0} (p : A → Bool) (xs : List A) (x : A) → filter p xs ≡ x ∷ []
    → Stands x xs
passes_among p [] x only = absurd (cc)
passes_among p (y ∷ xs) x only =
    ⊎_elim
    (λ (passes : p y ≡ true).
    let first : y ∷ filter p xs ≡ x ∷ [] =
    sym (ap (λ b. cond b (y ∷ filter p xs) (filter p xs)) passes) ∙ only in
    let same : x ≡ y = cc in inl same)
    (λ (fails : p y ≡ false). inr (passes_among p xs x
    (sym (ap (λ b. cond b (y ∷ filter p xs) (filter p xs)) fails) ∙ only)))
    (cases_Bool (p y))

-- what is looked up stands in the list under a number
pub found_among : {A : Type 0} (test : ℕ → Bool) (items : List (ℕ × A)) (a : A)
    → lookup test items ≡ Some a → (n : ℕ) × Stands (n, a) items
found_among test [] a found = absurd (none-some a found)
found_among test (i ∷ later) a found =
    ⊎_elim
    (λ here. (i.0, inl (ap (λ s. (i.0, s)) (sym (same_Some i.1 a here.1)))))
    (λ there. let f = found_among test later a there.1 in (f.0, inr f.1))
    (choice (test i.0) (Some i.1) (lookup test later) a found)
