-- What a map by numbers has, as a list in order.
use Rattle.std.proofs.Common.{arith, ◌≡◌, ℕ, suc, ◌<◌, true, List, [], ◌∷◌, Some, None, refl, sym, ap, subst, inl, inr}
use Rattle.std.specs.Prelude.{slice_get}
use Rattle.std.specs.List.{AllByRecursion}
use Rattle.std.specs.List.Sorted.{IsStrictlySortedBy}
use Rattle.std.specs.Cmp.{nat_cmp_total}
use Rattle.std.specs.Ordering.{nat_cmp}
use Rattle.std.specs.declared.cmp.Ordering.TheVariants.{Less}
use Rattle.std.specs.Map.{keys_of, values_of, lookup}
use Rattle.std.specs.BTreeMap.{BTreeMap, get, is_at, IsEmpty, IsOrdered}
use Rattle.std.proofs.lemmas.Map.Entries.{place_from_lookup, btree_map_get_place}
use Rattle.std.proofs.lemmas.Map.Keys.{sorted_head, sorted_tail}
use Rattle.theory_lists.specs.Members.{Stands, AllOfTwo}
use Rattle.theory_lists.proofs.Members.{stands_at}

-- a member of a list stands at a place
place_of : {A : Type 0} (x : A) (xs : List A) → Stands x xs → (i : ℕ) × (slice_get xs i ≡ Some x)
place_of x [] none = absurd none
place_of x (y ∷ ys) (inl same) = (0, ap Some (sym same))
place_of x (y ∷ ys) (inr later) = let (i, at) = place_of x ys later in (suc i, at)

module _ {X : Type 0} where
  -- the value of an entry stands among the values
  pub value_stands : (k : ℕ) (x : X) (es : List (ℕ × X)) → Stands (k, x) es → Stands x (values_of es)
  value_stands k x [] none = absurd none
  value_stands k x (e ∷ es) (inl same) = inl (ap (λ p. p.1) same)
  value_stands k x (e ∷ es) (inr later) = inr (value_stands k x es later)

  pub entry_of_value : (x : X) (es : List (ℕ × X)) → Stands x (values_of es)
      → (k : ℕ) × Stands {X = ℕ × X} (k, x) es
  entry_of_value x [] none = absurd none
  entry_of_value x (e ∷ es) (inl same) = (e.0, inl (ap (λ v. (e.0, v)) same))
  entry_of_value x (e ∷ es) (inr later) = let (k, at) = entry_of_value x es later in (k, inr at)

  module _ (m : BTreeMap ℕ X) where
    -- an empty map has nothing
    pub none_found : IsEmpty m → (q : ℕ) → get nat_cmp m q ≡ None
    none_found empty q = ap (λ es. lookup (is_at (nat_cmp q)) es) empty

    -- what is found of a key is an entry, and each entry is found of its key
    pub found_stands : (q : ℕ) (x : X) → get nat_cmp m q ≡ Some x → Stands {X = ℕ × X} (q, x) m.entries
    found_stands q x found =
        let (i, k, at, same) = place_from_lookup (is_at (nat_cmp q)) m.entries x found in
        subst (λ n. Stands {X = ℕ × X} (n, x) m.entries) (one_key q k same) (stands_at m.entries i (k, x) at)
      where
        one_key : (a b : ℕ) → is_at (nat_cmp a) b ≡ true → b ≡ a
        one_key a b is = grind (arith)

    pub stands_found : IsOrdered nat_cmp m → (k : ℕ) (x : X) → Stands {X = ℕ × X} (k, x) m.entries
        → get nat_cmp m k ≡ Some x
    stands_found ordered k x stands =
        let (i, at) = place_of (k, x) m.entries stands in
        btree_map_get_place nat_cmp_total m i k x ordered at

  -- where each value has its key as its number, the numbers of the values rise
  pub values_rise : (number : X → ℕ) (es : List (ℕ × X)) → IsStrictlySortedBy nat_cmp (keys_of es)
      → ((k : ℕ) (x : X) → Stands {X = ℕ × X} (k, x) es → number x ≡ k)
      → AllOfTwo (λ x y. number x < number y) (values_of es)
  values_rise number [] sorted same = tt
  values_rise number (e ∷ es) sorted same = (
    above es (sorted_head nat_cmp e.0 (keys_of es) sorted) (λ k x at. same k x (inr at)),
    values_rise number es (sorted_tail nat_cmp e.0 (keys_of es) sorted) (λ k x at. same k x (inr at)),
  )
    where
      below : (a b : ℕ) → nat_cmp a b ≡ Less → a < b
      below a b less = grind (arith)

      above : (fs : List (ℕ × X)) → AllByRecursion (λ y. nat_cmp e.0 y ≡ Less) (keys_of fs)
          → ((k : ℕ) (x : X) → Stands {X = ℕ × X} (k, x) fs → number x ≡ k)
          → AllByRecursion (λ y. number e.1 < number y) (values_of fs)
      above [] all fits = tt
      above (f ∷ fs) (less, later) fits = (
        subst (λ a. a < number f.1) (sym (same e.0 e.1 (inl refl)))
            (subst (λ b. e.0 < b) (sym (fits f.0 f.1 (inl refl))) (below e.0 f.0 less)),
        above fs later (λ k x at. fits k x (inr at)),
      )
