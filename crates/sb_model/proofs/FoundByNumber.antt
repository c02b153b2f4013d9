-- In products whose numbers rise, a search by halving finds the one with a number.

use Rattle.std.proofs.Common.{ℕ, zero, suc, ◌<◌, ◌≤◌, ◌≡◌, ◌≢◌, ◌==◌, Bool, true, false, not, ◌||◌, List, [], ◌∷◌}
use Rattle.std.proofs.Common.{length, Option, Some, None, if◌then◌else◌, refl, ap, sym, ◌∙◌, IsTrue}
use Rattle.std.proofs.Common.{Ok, Err, nat_lt, arith, get_or, ⊎_elim, is_none}
use Rattle.std.specs.List.{find}
use Rattle.std.specs.Ordering.{nat_cmp, ordering_index}
use Rattle.std.specs.List.Sorted.{IsBinarySearchResult}
use Rattle.std.specs.declared.cmp.Ordering.TheVariants as ordering
use Rattle.std.proofs.lemmas.Bool.{cases_lt, eq-eqb, ne_eqb, ltb-true, and_parts, false≢true}
use Rattle.sb_model.specs.Building.{Building, is_building, is_in_range, first_bad, first_wrong, or_else}
use Rattle.sb_model.specs.Building.{bad_space, bad_element, bad_opening, bad_filling}

equal_number : (a b : ℕ) → nat_cmp a b ≡ ordering.Equal → a ≡ b
equal_number a b e = grind (arith, e)

less_number : (a b : ℕ) → nat_cmp a b ≡ ordering.Less → a < b
less_number a b e = grind (arith, e)

greater_number : (a b : ℕ) → nat_cmp a b ≡ ordering.Greater → b < a
greater_number a b e = grind (arith, e)

higher : (a b n : ℕ) → a ≤ b → ordering_index (nat_cmp a n) ≤ ordering_index (nat_cmp b n)
higher a b n le = grind (arith)

module _ {X : Type 0} (number : X → ℕ) (wrong : X → Bool) where
  -- where no number is wrong, the first is above the one before
  pub first_above : (before : ℕ) (x : X) (xs : List X)
      → first_wrong number wrong before (x ∷ xs) ≡ None
      → (before < number x) × (first_wrong number wrong (number x) xs ≡ None)
  first_above before x xs none =
      by_test (nat_lt before (number x)) (wrong x) refl none
    where
      by_test : (rises is_wrong : Bool) → nat_lt before (number x) ≡ rises
          → (if not rises || is_wrong then Some (number x) else first_wrong number wrong (number x) xs) ≡ None
          → (before < number x) × (first_wrong number wrong (number x) xs ≡ None)
      by_test true false less e = (ltb-true before (number x) less, e)
      by_test true true less e = absurd (cc)
      by_test false is_wrong less e = absurd (cc)

  -- and so are all
  pub all_above : (before : ℕ) (xs : List X) → first_wrong number wrong before xs ≡ None
      → (k : ℕ) (d : X) → k < length xs → before < number (get_or xs k d)
  all_above before [] none k d within = absurd (omega (arith, within))
  all_above before (x ∷ xs) none zero d within = (first_above before x xs none).0
  all_above before (x ∷ xs) none (suc k) d within =
      let parts = first_above before x xs none in
      omega (arith, parts.0, all_above (number x) xs parts.1 k d (omega (arith, within)))

  -- the numbers rise
  rising : (before : ℕ) (xs : List X) → first_wrong number wrong before xs ≡ None
      → (i j : ℕ) (d : X) → i ≤ j → j < length xs → number (get_or xs i d) ≤ number (get_or xs j d)
  rising before [] none i j d le within = absurd (omega (arith, within))
  rising before (x ∷ xs) none zero zero d le within = omega arith
  rising before (x ∷ xs) none zero (suc j) d le within =
      let parts = first_above before x xs none in
      omega (arith, all_above (number x) xs parts.1 j d (omega (arith, within)))
  rising before (x ∷ xs) none (suc i) zero d le within = absurd (omega (arith, le))
  rising before (x ∷ xs) none (suc i) (suc j) d le within =
      let parts = first_above before x xs none in
      rising (number x) xs parts.1 i j d (omega (arith, le)) (omega (arith, within))

  -- the one with the number is the first with it
  found_once : (n : ℕ) (before : ℕ) (xs : List X) → first_wrong number wrong before xs ≡ None
      → (at : ℕ) (d : X) → at < length xs → number (get_or xs at d) ≡ n
      → find (λ x. number x == n) xs ≡ Some (get_or xs at d)
  found_once n before [] none at d within is = absurd (omega (arith, within))
  found_once n before (x ∷ xs) none zero d within is = rw (eq-eqb (number x) n is) refl
  found_once n before (x ∷ xs) none (suc at) d within is =
      let parts = first_above before x xs none in
      let later = all_above (number x) xs parts.1 at d (omega (arith, within)) in
      rw (ne_eqb (number x) n (λ e. absurd (omega (arith, e, is, later))))
      (found_once n (number x) xs parts.1 at d (omega (arith, within)) is)

  none_found : (n : ℕ) (xs : List X) → ((k : ℕ) (d : X) → k < length xs → number (get_or xs k d) ≢ n)
      → find (λ x. number x == n) xs ≡ None
  none_found n [] others = refl
  none_found n (x ∷ xs) others =
      rw (ne_eqb (number x) n (λ e. others zero x (omega arith) e))
      (none_found n xs (λ k d within. others (suc k) d (omega (arith, within))))

  -- what a search by halving finds, in a list equal to theirs
  pub halving-found : (n : ℕ) (xs slice : List X) → first_wrong number wrong 0 xs ≡ None → slice ≡ xs
      → (at : ℕ) (e : X) → at < length slice
      → IsBinarySearchResult (λ x. nat_cmp (number x) n) slice (Ok at) → e ≡ get_or slice at e
      → Some e ≡ find (λ x. number x == n) xs
  halving-found n xs slice none same at e within found is =
      ap Some is ∙ sym (found_once n 0 slice (ap (first_wrong number wrong 0) same ∙ none) at e within
      (equal_number (number (get_or slice at e)) n (found e)))
      ∙ ap (find (λ x. number x == n)) same

  pub halving-none : (n : ℕ) (xs slice : List X) → first_wrong number wrong 0 xs ≡ None → slice ≡ xs
      → (place : ℕ) → IsBinarySearchResult (λ x. nat_cmp (number x) n) slice (Err place)
      → None ≡ find (λ x. number x == n) xs
  halving-none n xs slice none same place found =
      sym (none_found n slice (λ k d within equal.
      let parts = found (λ i j e le high. higher (number (get_or slice i e)) (number (get_or slice j e)) n
      (rising 0 slice (ap (first_wrong number wrong 0) same ∙ none) i j e le high)) in
      ⊎_elim
      (λ low. let less = less_number (number (get_or slice k d)) n (parts.0 k d (omega arith) low) in
      omega (arith, less, equal))
      (λ high. let more = greater_number (number (get_or slice k d)) n (parts.1 k d high within) in
      omega (arith, more, equal))
      (cases_lt k place)))
      ∙ ap (find (λ x. number x == n)) same

-- of four answers that are none together each is none
neither : (a b : Option ℕ) → or_else a b ≡ None → (a ≡ None) × (b ≡ None)
neither None b none = (refl, none)
neither (Some n) b none = absurd (cc)

no_bad : (m : Building) → IsTrue (is_building m) → first_bad m ≡ None
no_bad m sound = by_answer (first_bad m) (and_parts (is_in_range m) (is_none (first_bad m)) sound).1
  where
    by_answer : (r : Option ℕ) → is_none r ≡ true → r ≡ None
    by_answer None e = refl
    by_answer (Some n) e = absurd (false≢true e)

-- ---- the products of a model, one from each list

right_all : (m : Building) → IsTrue (is_building m)
    → (bad_space m ≡ None) × ((bad_element m ≡ None) × ((bad_opening m ≡ None) × (bad_filling m ≡ None)))
right_all m sound =
    let first = neither (bad_space m) (or_else (bad_element m) (or_else (bad_opening m) (bad_filling m)))
    (no_bad m sound) in
    let second = neither (bad_element m) (or_else (bad_opening m) (bad_filling m)) first.1 in
    let third = neither (bad_opening m) (bad_filling m) second.1 in
    (first.0, (second.0, (third.0, third.1)))

-- of the spaces of a model none has a wrong number
pub spaces_right : (m : Building) → IsTrue (is_building m)
    → bad_space m ≡ None
spaces_right m sound = (right_all m sound).0

-- nor of the elements
pub elements_right : (m : Building) → IsTrue (is_building m)
    → bad_element m ≡ None
elements_right m sound = (right_all m sound).1.0

-- nor of the openings
pub openings_right : (m : Building) → IsTrue (is_building m)
    → bad_opening m ≡ None
openings_right m sound = (right_all m sound).1.1.0

-- nor of the fillings
pub fillings_right : (m : Building) → IsTrue (is_building m)
    → bad_filling m ≡ None
fillings_right m sound = (right_all m sound).1.1.1
