-- A file and its products have one first defect, or none: that of the file, or else that of its products.
use Rattle.std.proofs.Common.{◌≡◌, ℕ, ◌≤◌, inl, inr, List, [], ◌∷◌, ◌++◌, Option, Some, None, refl, sym, ap, ◌∙◌, subst, arith}
use Rattle.theory_lists.specs.Members.{Stands}
use Rattle.sb_step.specs.Indexed.{Indexed}
use Rattle.sb_profile.specs.declared.defects.Code.{Code}
use Rattle.sb_profile.specs.declared.defects.Defect.{Defect}
use Rattle.sb_profile.specs.Lowest.{IsLowest}
use Rattle.sb_profile.specs.Contents.{Contents}
use Rattle.sb_profile.specs.Defects.{Occurs, file_codes}
use Rattle.sb_profile.specs.First.{defect_at, IsFirst}
use Rattle.sb_building.specs.Conditions.{OccursAt, OccursIn, product_codes, all_codes}

-- two lowest numbers are one
one_lowest : (P : ℕ → Type 0) (m n : ℕ) → IsLowest P m → IsLowest P n → m ≡ n
one_lowest P m n one two =
    let below : m ≤ n = one.lowest n two.holds in
    let above : n ≤ m = two.lowest m one.holds in
    omega arith

pub one_first : (Has : Code → ℕ → Type 0) (codes : List Code) (one two : Option Defect)
    → IsFirst Has codes one → IsFirst Has codes two → one ≡ two
one_first Has [] one two none_one none_two = none_one ∙ sym none_two
one_first Has (code ∷ later) one two (inl (m, (low, is))) (inl (n, (lowest, also))) =
    is ∙ (ap (λ k. Some (defect_at k code)) (one_lowest (Has code) m n low lowest) ∙ sym also)
one_first Has (code ∷ later) one two (inl (m, (low, is))) (inr (none, first)) =
    absurd (none m low.holds)
one_first Has (code ∷ later) one two (inr (none, first)) (inl (n, (low, is))) =
    absurd (none n low.holds)
one_first Has (code ∷ later) one two (inr (none, first)) (inr (also, second)) =
    one_first Has later one two first second

module _ (P Q : Code → ℕ → Type 0) where
  -- where two say the same of a code, its lowest number is that of both
  lowest_too : (k : Code) (n : ℕ) → ((m : ℕ) → (P k m → Q k m) × (Q k m → P k m)) → IsLowest (P k) n
      → IsLowest (Q k) n
  lowest_too k n agree low = record {
    holds = (agree n).0 low.holds;
    lowest = λ m has. low.lowest m ((agree m).1 has);
  }

  -- and so it is of all codes, if another first follows
  then_first : (codes later : List Code) (found : Option Defect)
      → ((k : Code) → Stands k codes → (n : ℕ) → (P k n → Q k n) × (Q k n → P k n))
      → IsFirst P codes None → IsFirst Q later found → IsFirst Q (codes ++ later) found
  then_first [] later found agree none first = first
  then_first (k ∷ codes) later found agree (inl (n, (low, is))) first = absurd (cc is)
  then_first (k ∷ codes) later found agree (inr (none, nothing)) first =
      inr (
        (λ n has. none n ((agree k (inl refl) n).1 has)),
        then_first codes later found (λ j stands. agree j (inr stands)) nothing first,
      )

  first_stays : (codes later : List Code) (d : Defect)
      → ((k : Code) → Stands k codes → (n : ℕ) → (P k n → Q k n) × (Q k n → P k n))
      → IsFirst P codes (Some d) → IsFirst Q (codes ++ later) (Some d)
  first_stays [] later d agree none = absurd (cc none)
  first_stays (k ∷ codes) later d agree (inl (n, (low, is))) =
      inl (n, (lowest_too k n (agree k (inl refl)) low, is))
  first_stays (k ∷ codes) later d agree (inr (none, first)) =
      inr (
        (λ n has. none n ((agree k (inl refl) n).1 has)),
        first_stays codes later d (λ j stands. agree j (inr stands)) first,
      )

module _ (i : Indexed) (c : Contents) where
  -- ---- the codes of the file, and those of products

  of_file : (k : Code) → Stands k file_codes → (n : ℕ) → OccursAt i c k n → ⊥
  of_file k (inl is) n at = subst (λ j. OccursAt i c j n → ⊥) (sym is) (λ (u, known, taken, none). none) at
  of_file k (inr (inl is)) n at =
      subst (λ j. OccursAt i c j n → ⊥) (sym is) (λ (u, known, taken, none). none) at
  of_file k (inr (inr (inl is))) n at =
      subst (λ j. OccursAt i c j n → ⊥) (sym is) (λ (u, known, taken, none). none) at
  of_file k (inr (inr (inr (inl is)))) n at =
      subst (λ j. OccursAt i c j n → ⊥) (sym is) (λ (u, known, taken, none). none) at
  of_file k (inr (inr (inr (inr (inl is))))) n at =
      subst (λ j. OccursAt i c j n → ⊥) (sym is) (λ (u, known, taken, none). none) at
  of_file k (inr (inr (inr (inr (inr (inl is)))))) n at =
      subst (λ j. OccursAt i c j n → ⊥) (sym is) (λ (u, known, taken, none). none) at
  of_file k (inr (inr (inr (inr (inr (inr stands)))))) n at = absurd stands

  in_file : (k : Code) → Stands k file_codes → (n : ℕ)
      → (Occurs c k n → OccursIn i c k n) × (OccursIn i c k n → Occurs c k n)
  in_file k stands n = ((λ has. inl has), back)
    where
      back : OccursIn i c k n → Occurs c k n
      back (inl has) = has
      back (inr at) = absurd (of_file k stands n at)

  of_products : (k : Code) → Stands k product_codes → (n : ℕ) → Occurs c k n → ⊥
  of_products k (inl is) n has = subst (λ j. Occurs c j n) is has
  of_products k (inr (inl is)) n has = subst (λ j. Occurs c j n) is has
  of_products k (inr (inr (inl is))) n has = subst (λ j. Occurs c j n) is has
  of_products k (inr (inr (inr (inl is)))) n has = subst (λ j. Occurs c j n) is has
  of_products k (inr (inr (inr (inr (inl is))))) n has = subst (λ j. Occurs c j n) is has
  of_products k (inr (inr (inr (inr (inr (inl is)))))) n has = subst (λ j. Occurs c j n) is has
  of_products k (inr (inr (inr (inr (inr (inr (inl is))))))) n has = subst (λ j. Occurs c j n) is has
  of_products k (inr (inr (inr (inr (inr (inr (inr stands))))))) n has = absurd stands

  in_products : (k : Code) → Stands k product_codes → (n : ℕ)
      → (OccursAt i c k n → OccursIn i c k n) × (OccursIn i c k n → OccursAt i c k n)
  in_products k stands n = ((λ at. inr at), back)
    where
      back : OccursIn i c k n → OccursAt i c k n
      back (inl has) = absurd (of_products k stands n has)
      back (inr at) = at

  same_first : (codes : List Code) (found : Option Defect)
      → ((k : Code) → Stands k codes → (n : ℕ)
      → (OccursAt i c k n → OccursIn i c k n) × (OccursIn i c k n → OccursAt i c k n))
      → IsFirst (OccursAt i c) codes found → IsFirst (OccursIn i c) codes found
  same_first [] found agree none = none
  same_first (k ∷ codes) found agree (inl (n, (low, is))) =
      inl (n, (lowest_too (OccursAt i c) (OccursIn i c) k n (agree k (inl refl)) low, is))
  same_first (k ∷ codes) found agree (inr (none, first)) =
      inr (
        (λ n has. none n ((agree k (inl refl) n).1 has)),
        same_first codes found (λ j stands. agree j (inr stands)) first,
      )

  pub file_comes_first : (d : Defect) → IsFirst (Occurs c) file_codes (Some d)
      → IsFirst (OccursIn i c) all_codes (Some d)
  file_comes_first d first =
      first_stays (Occurs c) (OccursIn i c) file_codes product_codes d in_file first

  pub products_follow : (found : Option Defect) → IsFirst (Occurs c) file_codes None
      → IsFirst (OccursAt i c) product_codes found → IsFirst (OccursIn i c) all_codes found
  products_follow found none first =
      then_first (Occurs c) (OccursIn i c) file_codes product_codes found in_file none
      (same_first product_codes found in_products first)
