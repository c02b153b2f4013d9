-- What stands in a list, what holds of all its items, or of each two whichever comes first, does
-- not see its order.
use Rattle.std.proofs.Common.{◌≡◌, refl, sym, ◌∙◌, ap, subst₂, inl, inr, ◌⊎◌, ℕ, zero, suc}
use Rattle.std.proofs.Common.{◌<◌, ◌≤◌, List, [], ◌∷◌, length, get_or, IsPermutation, arith}
use Rattle.std.proofs.ByRecursion.{All-get_or, All-from_get_or, all_shuffled}
use Rattle.std.proofs.lemmas.List.Edits.{Swapped, swapped_from_swap, length-swap}
use Rattle.std.proofs.lemmas.List.Sorted.{IsPermutation-keeps, IsPermutation-sym}
use Rattle.std.proofs.lemmas.Bool.{cases_eq, cases_lt}
use Rattle.std.specs.List.{AllByRecursion, swap}
use Rattle.theory_lists.specs.Members.{Stands, AllOfTwo}
use Rattle.theory_lists.proofs.Members.{all_stands, all_follow}

-- what holds of all items holds of them in another order
pub all_permuted : {X : Type 0} (P : X → Type 0) (xs ys : List X) → IsPermutation xs ys
    → AllByRecursion P xs → AllByRecursion P ys
all_permuted P xs ys permuted all = all_shuffled P xs ys permuted all

-- each item stands in the list
all_stand_there : {X : Type 0} (xs : List X) → AllByRecursion (λ x. Stands x xs) xs
all_stand_there [] = tt
all_stand_there (x ∷ xs) =
    (inl refl, all_follow (λ y there. inr there) xs (all_stand_there xs))

-- what stands in a list stands in it in another order
pub stands_permuted : {X : Type 0} (x : X) (xs ys : List X) → IsPermutation xs ys → Stands x xs
    → Stands x ys
stands_permuted x xs ys permuted stands =
    all_stands (λ y. Stands y ys) x xs
    (all_permuted (λ y. Stands y ys) ys xs (IsPermutation-sym xs ys permuted) (all_stand_there ys))
    stands

module _ {X : Type 0} (R : X → X → Type 0) where
  at_two : (xs : List X) (d : X) → AllOfTwo R xs → (i j : ℕ) → i < j → j < length xs
      → R (get_or xs i d) (get_or xs j d)
  at_two [] d all i j before there = absurd (omega arith)
  at_two (x ∷ xs) d all zero zero before there = absurd (omega arith)
  at_two (x ∷ xs) d all zero (suc j) before there =
      All-get_or (R x) xs j d (omega arith) all.0
  at_two (x ∷ xs) d all (suc i) zero before there = absurd (omega arith)
  at_two (x ∷ xs) d all (suc i) (suc j) before there =
      at_two xs d all.1 i j (omega arith) (omega arith)

  from_two : (xs : List X) (d : X)
      → ((i j : ℕ) → i < j → j < length xs → R (get_or xs i d) (get_or xs j d)) → AllOfTwo R xs
  from_two [] d at = tt
  from_two (x ∷ xs) d at = (
    All-from_get_or (R x) xs d (λ j there. at 0 (suc j) (omega arith) (omega arith)),
    from_two xs d (λ i j before there. at (suc i) (suc j) (omega arith) (omega arith)),
  )

  -- an exchange of two items of a list of n
  after_exchange : (f g : ℕ → X) (a b n : ℕ) → a < n → b < n → Swapped f g a b
      → ((i j : ℕ) → i < n → j < n → (i ≡ j → ⊥) → R (f i) (f j))
      → (i j : ℕ) → i < n → j < n → (i ≡ j → ⊥) → R (g i) (g j)
  after_exchange f g a b n a_in b_in swapped each i j i_in j_in other =
      from (cases_eq i a) (cases_eq i b) (cases_eq j a) (cases_eq j b)
    where
      -- what stands at m now, by what stood at k
      now : (k l : ℕ) → k < n → l < n → (k ≡ l → ⊥) → g i ≡ f k → g j ≡ f l → R (g i) (g j)
      now k l k_in l_in apart at_i at_j =
          subst₂ R (sym at_i) (sym at_j) (each k l k_in l_in apart)

      at_a : (m : ℕ) → m ≡ a → g m ≡ f b
      at_a m same = ap g same ∙ swapped.0

      at_b : (m : ℕ) → m ≡ b → g m ≡ f a
      at_b m same = ap g same ∙ swapped.1

      from : (i ≡ a) ⊎ (i ≡ a → ⊥) → (i ≡ b) ⊎ (i ≡ b → ⊥) → (j ≡ a) ⊎ (j ≡ a → ⊥)
          → (j ≡ b) ⊎ (j ≡ b → ⊥) → R (g i) (g j)
      from (inl ia) _ (inl ja) _ = absurd (other (ia ∙ sym ja))
      from (inl ia) _ (inr ja) (inl jb) =
          now b a b_in a_in (λ same. ja (jb ∙ same)) (at_a i ia) (at_b j jb)
      from (inl ia) _ (inr ja) (inr jb) =
          now b j b_in j_in (λ same. jb (sym same)) (at_a i ia) (swapped.2 j ja jb)
      from (inr ia) (inl ib) (inl ja) _ =
          now a b a_in b_in (λ same. ia (ib ∙ sym same)) (at_b i ib) (at_a j ja)
      from (inr ia) (inl ib) (inr ja) (inl jb) = absurd (other (ib ∙ sym jb))
      from (inr ia) (inl ib) (inr ja) (inr jb) =
          now a j a_in j_in (λ same. ja (sym same)) (at_b i ib) (swapped.2 j ja jb)
      from (inr ia) (inr ib) (inl ja) _ =
          now i b i_in b_in ib (swapped.2 i ia ib) (at_a j ja)
      from (inr ia) (inr ib) (inr ja) (inl jb) =
          now i a i_in a_in ia (swapped.2 i ia ib) (at_b j jb)
      from (inr ia) (inr ib) (inr ja) (inr jb) =
          now i j i_in j_in other (swapped.2 i ia ib) (swapped.2 j ja jb)

  -- the places of a list after an exchange
  swapped_places : (xs : List X) (a b : ℕ) (d : X) → a < length xs → b < length xs
      → Swapped (λ i. get_or xs i d) (λ i. get_or (swap xs a b) i d) a b
  swapped_places [] a b d a_in b_in = absurd (omega arith)
  swapped_places (x ∷ xs) a b d a_in b_in =
      swapped_from_swap (x ∷ xs) (swap (x ∷ xs) a b) a b d a_in b_in refl

  module _ (turned : (x y : X) → R x y → R y x) where
    -- the relation holds of the items at each two places
    at_each_two : (xs : List X) (d : X) → AllOfTwo R xs → (i j : ℕ) → i < length xs
        → j < length xs → (i ≡ j → ⊥) → R (get_or xs i d) (get_or xs j d)
    at_each_two xs d all i j i_in j_in other = from (cases_lt i j)
      where
        from : (i < j) ⊎ (j ≤ i) → R (get_or xs i d) (get_or xs j d)
        from (inl before) = at_two xs d all i j before j_in
        from (inr after) =
            turned (get_or xs j d) (get_or xs i d) (at_two xs d all j i (omega arith) i_in)

    two_exchanged : (xs : List X) (a b : ℕ) → a < length xs → b < length xs → AllOfTwo R xs
        → AllOfTwo R (swap xs a b)
    two_exchanged [] a b a_in b_in all = absurd (omega arith)
    two_exchanged (x ∷ xs) a b a_in b_in all =
        let same_length = length-swap (x ∷ xs) a b in
        from_two (swap (x ∷ xs) a b) x
        (λ i j before there.
        after_exchange (λ k. get_or (x ∷ xs) k x) (λ k. get_or (swap (x ∷ xs) a b) k x) a b
        (length (x ∷ xs)) a_in b_in (swapped_places (x ∷ xs) a b x a_in b_in)
        (at_each_two (x ∷ xs) x all) i j (omega arith) (omega arith) (λ same. omega arith))

    -- what holds of each two, whichever comes first, holds of them in another order
    pub two_permuted : (xs ys : List X) → IsPermutation xs ys → AllOfTwo R xs → AllOfTwo R ys
    two_permuted xs ys permuted all =
        IsPermutation-keeps xs (AllOfTwo R) all
        (λ l a b a_in b_in each. two_exchanged l a b a_in b_in each) ys permuted
