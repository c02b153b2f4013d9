-- A test counts the places where it passes: one, or two of them.
use Rattle.sb_step.proofs.Names.{◌≡◌, ℕ, ◌+◌, ◌<◌, ◌≤◌, Bool, true, false, cond, List, [], ◌∷◌, length, zero, suc, ap, ◌∙◌, ⊎_elim, get_or, arith, count_by, cases_Bool, sum_by-cons}

module _ {X : Type 0} (p : X → Bool) where
  -- one more where the first item passes
  pub count_by-cons : (x : X) (xs : List X)
      → count_by p (x ∷ xs) ≡ cond (p x) 1 0 + count_by p xs
  count_by-cons x xs = sum_by-cons (λ y. cond (p y) 1 0) x xs

  first_counts : (x : X) (xs : List X) → p x ≡ true → count_by p (x ∷ xs) ≡ 1 + count_by p xs
  first_counts x xs passes =
      count_by-cons x xs ∙ ap (λ b. cond b 1 0 + count_by p xs) passes

  first_does_not : (x : X) (xs : List X) → p x ≡ false → count_by p (x ∷ xs) ≡ count_by p xs
  first_does_not x xs fails =
      let same : count_by p (x ∷ xs) ≡ 0 + count_by p xs =
      count_by-cons x xs ∙ ap (λ b. cond b 1 0 + count_by p xs) fails in
      omega (arith, same)

  -- where it passes once, there is a place
  pub passes_at : (xs : List X) (d : X) → 1 ≤ count_by p xs
      → (i : ℕ) × (i < length xs) × (p (get_or xs i d) ≡ true)
  passes_at [] d more = absurd (omega arith)
  passes_at (x ∷ xs) d more = ⊎_elim
      (λ yes. (0, omega arith, yes))
      (λ no. let later = passes_at xs d (omega (arith, more, first_does_not x xs no)) in
      (suc later.0, omega (arith, later.1), later.2))
      (cases_Bool (p x))

  -- two places at which it passes
  pub record TwoPlaces (xs : List X) (d : X) : Type 0 where
    pub low : ℕ
    pub high : ℕ
    pub ordered : low < high
    pub within : high < length xs
    pub at_low : p (get_or xs low d) ≡ true
    pub at_high : p (get_or xs high d) ≡ true

  -- where it passes twice, there are two
  pub passes_at_two : (xs : List X) (d : X) → 2 ≤ count_by p xs → TwoPlaces xs d
  passes_at_two [] d more = absurd (omega arith)
  passes_at_two (x ∷ xs) d more = ⊎_elim
      (λ yes. let later = passes_at xs d (omega (arith, more, first_counts x xs yes)) in record {
        low = 0;
        high = suc later.0;
        ordered = omega arith;
        within = omega (arith, later.1);
        at_low = yes;
        at_high = later.2;
      })
      (λ no. let two = passes_at_two xs d (omega (arith, more, first_does_not x xs no)) in record {
        low = suc two.low;
        high = suc two.high;
        ordered = omega (arith, two.ordered);
        within = omega (arith, two.within);
        at_low = two.at_low;
        at_high = two.at_high;
      })
      (cases_Bool (p x))

  -- a place where it passes counts
  pub place_counts : (xs : List X) (i : ℕ) (d : X) → i < length xs → p (get_or xs i d) ≡ true
      → 1 ≤ count_by p xs
  place_counts [] i d within passes = absurd (omega arith)
  place_counts (x ∷ xs) zero d within passes = omega (arith, first_counts x xs passes)
  place_counts (x ∷ xs) (suc i) d within passes =
      let later = place_counts xs i d (omega arith) passes in
      omega (arith, later, count_by-cons x xs)

  -- and two count twice
  pub two_places_count : (xs : List X) (i j : ℕ) (d : X) → i < j → j < length xs
      → p (get_or xs i d) ≡ true → p (get_or xs j d) ≡ true → 2 ≤ count_by p xs
  two_places_count [] i j d less within one two = absurd (omega arith)
  two_places_count (x ∷ xs) i zero d less within one two = absurd (omega arith)
  two_places_count (x ∷ xs) zero (suc j) d less within one two =
      let later = place_counts xs j d (omega arith) two in
      omega (arith, later, first_counts x xs one)
  two_places_count (x ∷ xs) (suc i) (suc j) d less within one two =
      let later = two_places_count xs i j d (omega arith) (omega arith) one two in
      omega (arith, later, count_by-cons x xs)
