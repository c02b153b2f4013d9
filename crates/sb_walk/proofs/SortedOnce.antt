-- A list that is sorted, and of which each run of equals leaves one, rises strictly and has what the list had.

use Rattle.std.proofs.Common.{◌≡◌, inl, inr, refl, sym, ap, ◌∙◌, subst, arith, ℕ, zero, suc, ◌<◌}
use Rattle.std.proofs.Common.{true, List, [], ◌∷◌, length, get_or, IsPermutation}
use Rattle.std.specs.Cmp.{IsTotalOrder, IsEquivalence}
use Rattle.std.specs.List.{Contains, Any, dedup}
use Rattle.std.specs.List.Sorted.{IsSorted, IsStrictlySortedBy}
use Rattle.std.specs.declared.cmp.Ordering.{Ordering}
use Rattle.std.specs.declared.cmp.Ordering.TheVariants.{Less, Equal, Greater}
use Rattle.std.specs.Ordering.{is_eq, eq_by_cmp, ordering_reverse}
use Rattle.std.proofs.lemmas.Cmp.{tied_itself}
use Rattle.std.proofs.lemmas.List.Kept.{IsStrictlySortedBy-dedup, Any-dedup, Contains-from_dedup}
use Rattle.std.proofs.lemmas.List.Sorted.{IsPermutation-sym}
use Rattle.theory_lists.specs.Members.{Stands, AllOfTwo}
use Rattle.theory_lists.proofs.InAnyOrder.{stands_permuted}
use Rattle.sb_frame.specs.Rising.{IsRisingOf}

-- ---- members by place and by recursion

contains_if_stands : {X : Type 0} (x : X) (xs : List X) → Stands x xs → Contains xs x
contains_if_stands x [] at = absurd at
contains_if_stands x (y ∷ ys) (inl same) = (0, omega arith, sym same)
contains_if_stands x (y ∷ ys) (inr later) =
    let rest = contains_if_stands x ys later in (suc rest.0, omega (arith, rest.1), rest.2)

stands_if_there : {X : Type 0} (x : X) (xs : List X) (k : ℕ) → k < length xs → get_or xs k x ≡ x
    → Stands x xs
stands_if_there x [] k there is = absurd (omega arith)
stands_if_there x (y ∷ ys) zero there is = inl (sym is)
stands_if_there x (y ∷ ys) (suc k) there is = inr (stands_if_there x ys k (omega arith) is)

-- ---- equal by an order

module _ {X : Type 0} (R : X → X → Ordering) (total : IsTotalOrder R) where
  equals : IsEquivalence (eq_by_cmp R)
  equals =
      record {
        refl = λ x. ap is_eq (tied_itself total x);
        symm = λ x y. ap is_eq (total.antisymm x y) ∙ turned (R y x);
        congr = λ x y z same. ap is_eq (total.congr x y z (from (R x y) same));
      }
    where
      turned : (o : Ordering) → is_eq (ordering_reverse o) ≡ is_eq o
      turned Less = refl
      turned Equal = refl
      turned Greater = refl

      from : (o : Ordering) → is_eq o ≡ true → o ≡ Equal
      from Less is = absurd cc
      from Equal is = refl
      from Greater is = absurd cc

  equal_from : (o : Ordering) → is_eq o ≡ true → o ≡ Equal
  equal_from Less is = absurd cc
  equal_from Equal is = refl
  equal_from Greater is = absurd cc

  two_of_sorted : (xs : List X) → IsStrictlySortedBy R xs → AllOfTwo (λ x y. R x y ≡ Less) xs
  unfolding IsStrictlySortedBy
  two_of_sorted [] sorted = tt
  two_of_sorted (x ∷ xs) sorted = (sorted.0, two_of_sorted xs sorted.1)

  has_equal : (x : X) (xs : List X) → Any (λ y. eq_by_cmp R x y ≡ true) xs
      → (y : X) × (Stands y xs × (R x y ≡ Equal))
  has_equal x xs (k, y, there, is, same) =
      (y, (stands_if_there y xs k there is, equal_from (R x y) same))

  -- sorted, and then one of each run
  pub rising_of : (old sorted new : List X) → IsPermutation old sorted → IsSorted R sorted
      → new ≡ dedup (eq_by_cmp R) sorted → IsRisingOf R old new
  rising_of old sorted new permuted in_order once =
      subst (IsRisingOf R old) (sym once)
      (record {
        rising =
            two_of_sorted (dedup (eq_by_cmp R) sorted)
            (IsStrictlySortedBy-dedup total (λ x y. refl) sorted in_order);
        each =
            λ x at.
            stands_permuted x sorted old (IsPermutation-sym old sorted permuted)
            (from x
            (Contains-from_dedup (eq_by_cmp R) sorted x
            (contains_if_stands x (dedup (eq_by_cmp R) sorted) at)));
        all =
            λ x at.
            has_equal x (dedup (eq_by_cmp R) sorted)
            (Any-dedup equals sorted x
            (contains_if_stands x sorted (stands_permuted x old sorted permuted at)));
      })
    where
      from : (x : X) → Contains sorted x → Stands x sorted
      from x (k, there, is) = stands_if_there x sorted k there is
