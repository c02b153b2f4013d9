-- Two lists with the same members, in neither of which one stands twice, are the same list in
-- another order.
use Rattle.std.proofs.Common.{◌≡◌, refl, sym, inl, inr, ◌⊎◌, ap, subst, List, [], ◌∷◌, ◌++◌}
use Rattle.std.proofs.Common.{IsPermutation}
use Rattle.std.specs.List.{AllByRecursion}
use Rattle.std.proofs.lemmas.List.Sorted.{IsPermutation-refl, IsPermutation-cons}
use Rattle.std.proofs.lemmas.List.Sorted.{IsPermutation-trans, IsPermutation-sym}
use Rattle.std.proofs.lemmas.List.Sorted.{IsPermutation-middle}
use Rattle.theory_lists.specs.Members.{Stands, AreOnce}
use Rattle.theory_lists.proofs.Members.{all_stands}

module _ {X : Type 0} where
  -- where an item stands
  record IsSplitAt (x : X) (ys front back : List X) : Type 0 where
    pub split : ys ≡ front ++ x ∷ back

  split_at : (x : X) (ys : List X) → Stands x ys
      → (front : List X) × (back : List X) × IsSplitAt x ys front back
  split_at x [] stands = absurd stands
  split_at x (y ∷ ys) (inl same) =
      ([], ys, record { split = ap (λ z. z ∷ ys) (sym same) })
  split_at x (y ∷ ys) (inr later) =
      let found = split_at x ys later in
      (y ∷ found.0, found.1, record { split = ap (λ zs. y ∷ zs) found.2.split })

  -- the item x between front and back
  stands_there_or_is : (z x : X) (front back : List X) → Stands z (front ++ x ∷ back)
      → (z ≡ x) ⊎ Stands z (front ++ back)
  stands_there_or_is z x [] back stands = stands
  stands_there_or_is z x (y ∷ ys) back (inl same) = inr (inl same)
  stands_there_or_is z x (y ∷ ys) back (inr later) = from (stands_there_or_is z x ys back later)
    where
      from : (z ≡ x) ⊎ Stands z (ys ++ back) → (z ≡ x) ⊎ Stands z ((y ∷ ys) ++ back)
      from (inl same) = inl same
      from (inr there) = inr (inr there)

  stands_with : (z x : X) (front back : List X) → Stands z (front ++ back)
      → Stands z (front ++ x ∷ back)
  stands_with z x [] back stands = inr stands
  stands_with z x (y ∷ ys) back (inl same) = inl same
  stands_with z x (y ∷ ys) back (inr later) = inr (stands_with z x ys back later)

  -- what stands between front and back stands there
  pub stands_between : (x : X) (front back : List X) → Stands x (front ++ x ∷ back)
  stands_between x [] back = inl refl
  stands_between x (y ∷ ys) back = inr (stands_between x ys back)

  all_without : (P : X → Type 0) (x : X) (front back : List X)
      → AllByRecursion P (front ++ x ∷ back) → AllByRecursion P (front ++ back)
  all_without P x [] back all = all.1
  all_without P x (y ∷ ys) back all = (all.0, all_without P x ys back all.1)

  once_without : (x : X) (front back : List X) → AreOnce (front ++ x ∷ back)
      → AreOnce (front ++ back) × (Stands x (front ++ back) → ⊥)
  once_without x [] back once =
      (once.1, λ stands. all_stands (λ y. x ≡ y → ⊥) x back once.0 stands refl)
  once_without x (y ∷ ys) back once =
      let rest = once_without x ys back once.1 in (
        (all_without (λ z. y ≡ z → ⊥) x ys back once.0, rest.0),
        λ stands. from rest.1 stands,
      )
    where
      from : (Stands x (ys ++ back) → ⊥) → Stands x ((y ∷ ys) ++ back) → ⊥
      from none (inl same) =
          all_stands (λ z. y ≡ z → ⊥) x (ys ++ x ∷ back) once.0 (stands_between x ys back)
          (sym same)
      from none (inr later) = none later

  -- the lists without x have the same members
  there_without : (x : X) (xs front back : List X) → AreOnce (x ∷ xs)
      → ((z : X) → Stands z (x ∷ xs) → Stands z (front ++ x ∷ back))
      → (z : X) → Stands z xs → Stands z (front ++ back)
  there_without x xs front back once there z stands =
      from (stands_there_or_is z x front back (there z (inr stands)))
    where
      from : (z ≡ x) ⊎ Stands z (front ++ back) → Stands z (front ++ back)
      from (inl same) = absurd (all_stands (λ y. x ≡ y → ⊥) z xs once.0 stands (sym same))
      from (inr found) = found

  back_without : (x : X) (xs front back : List X) → AreOnce (front ++ x ∷ back)
      → ((z : X) → Stands z (front ++ x ∷ back) → Stands z (x ∷ xs))
      → (z : X) → Stands z (front ++ back) → Stands z xs
  back_without x xs front back once here z stands =
      from (here z (stands_with z x front back stands))
    where
      from : (z ≡ x) ⊎ Stands z xs → Stands z xs
      from (inl same) =
          absurd
          ((once_without x front back once).1
          (subst (λ y. Stands y (front ++ back)) same stands))
      from (inr found) = found

  -- the one is the other in another order
  pub permuted_if_same_members : (xs ys : List X) → AreOnce xs → AreOnce ys
      → ((z : X) → Stands z xs → Stands z ys) → ((z : X) → Stands z ys → Stands z xs)
      → IsPermutation xs ys
  permuted_if_same_members [] [] once once_ys there back = IsPermutation-refl []
  permuted_if_same_members [] (y ∷ ys) once once_ys there back = absurd (back y (inl refl))
  permuted_if_same_members (x ∷ xs) ys once once_ys there back =
      let found = split_at x ys (there x (inl refl)) in
      let split : ys ≡ found.0 ++ x ∷ found.1 = found.2.split in
      let once_split : AreOnce (found.0 ++ x ∷ found.1) = subst AreOnce split once_ys in
      let rest =
      permuted_if_same_members xs (found.0 ++ found.1) once.1
      (once_without x found.0 found.1 once_split).0
      (there_without x xs found.0 found.1 once (λ z st. subst (Stands z) split (there z st)))
      (back_without x xs found.0 found.1 once_split
      (λ z st. back z (subst (Stands z) (sym split) st)))
      in
      subst (IsPermutation (x ∷ xs)) (sym split)
      (IsPermutation-trans (x ∷ xs) (x ∷ (found.0 ++ found.1)) (found.0 ++ x ∷ found.1)
      (IsPermutation-cons x xs (found.0 ++ found.1) rest)
      (IsPermutation-sym (found.0 ++ x ∷ found.1) (x ∷ (found.0 ++ found.1))
      (IsPermutation-middle found.0 x found.1)))
