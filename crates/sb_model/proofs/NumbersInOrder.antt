-- Numbers in order say which products have them, and the first bad number is found one by one.

use Rattle.std.proofs.Common.{ℕ, ℤ, ◌<◌, ◌≤◌, ◌≡◌, ◌==◌, Bool, false, not, ◌||◌, List, [], ◌∷◌}
use Rattle.std.proofs.Common.{length, map, take, Option, Some, if◌then◌else◌, refl, ap, sym, ◌∙◌}
use Rattle.std.proofs.Common.{Result, Ok, Err, nat_lt, arith, get_or, is_ok, ⊎_elim, inl, inr, ◌⊎◌}
use Rattle.std.specs.Ordering.{nat_cmp}
use Rattle.std.specs.List.Sorted.{IsPermutation, IsBinarySearchResult}
use Rattle.std.proofs.lemmas.List.Sorted.{list_any-IsPermutation, searched}
use Rattle.std.specs.Prelude.{MatchResult}
use Rattle.std.proofs.lemmas.Bool.{eq-eqb, ne_eqb, cases_lt}
use Rattle.std.proofs.lemmas.List.Folds.{list_any_at, list_any_none}
use Rattle.std.proofs.lemmas.List.{take_all, get_or_default}
use Rattle.sb_model.specs.declared.products.Space.{Space}
use Rattle.sb_model.specs.declared.products.Element.{Element}
use Rattle.sb_model.specs.declared.products.Opening.{Opening}
use Rattle.sb_model.specs.declared.products.Filling.{Filling}
use Rattle.sb_model.specs.Building.{has_number, first_wrong, or_else, building, first_bad}
use Rattle.sb_fraction.specs.declared.unit.Unit as unit
use Rattle.sb_model.specs.Numbering.{has, is_taken, HasNumbersOf, Rises}

any-map : {X : Type 0} (number : X → ℕ) (n : ℕ) (xs : List X)
    → has (map number xs) n ≡ has_number number xs n
any-map number n [] = refl
any-map number n (x ∷ xs) = ap (λ b. (number x == n) || b) (any-map number n xs)

-- the numbers of products in another order have the same numbers
pub numbers-in-order : {X : Type 0} (number : X → ℕ) (xs : List X) (numbers ordered : List ℕ)
    → numbers ≡ map number xs → IsPermutation numbers ordered → HasNumbersOf number xs ordered
numbers-in-order number xs numbers ordered are same n =
    sym (list_any-IsPermutation (λ k. k == n) numbers ordered same)
    ∙ ap (λ l. has l n) are ∙ any-map number n xs

-- numbers collected to the end are those of all products
pub all-numbers : {X : Type 0} (number : X → ℕ) (numbers : List ℕ) (i : ℕ) (xs ys : List X)
    → numbers ≡ map number (take i xs) → length xs ≤ i → xs ≡ ys → numbers ≡ map number ys
all-numbers number numbers i xs ys so_far end same =
    so_far ∙ ap (map number) (take_all i xs end ∙ same)

-- whether a search by halving finds the number
pub has-by-search : (numbers : List ℕ) (n : ℕ) (answer : Result ℕ ℕ)
    → IsBinarySearchResult (λ k. nat_cmp k n) numbers answer → Rises numbers
    → is_ok answer ≡ has numbers n
has-by-search numbers n answer found rises =
    by_answer answer (searched numbers n answer found (λ i j le within. rises i j 0 le within))
  where
    below : (k : ℕ) → k < n → (k == n) ≡ false
    below k less = ne_eqb k n (λ e. absurd (omega (arith, less, e)))

    above : (k : ℕ) → n < k → (k == n) ≡ false
    above k more = ne_eqb k n (λ e. absurd (omega (arith, more, e)))

    by_answer : (r : Result ℕ ℕ)
        → MatchResult r (λ i. (i < length numbers) × (get_or numbers i 0 ≡ n))
        (λ i. (i ≤ length numbers) × ((k : ℕ) → k < i → get_or numbers k 0 < n)
        × ((k : ℕ) → i ≤ k → k < length numbers → n < get_or numbers k 0))
        → is_ok r ≡ has numbers n
    by_answer (Ok i) (within, is) =
        sym (list_any_at (λ k. k == n) numbers i 0 within (eq-eqb (get_or numbers i 0) n is))
    by_answer (Err i) (bound, lower, higher) =
        sym (list_any_none (λ k. k == n) numbers
        (λ k d within. by_side (get_or numbers k d) (⊎_elim
        (λ low. inl (rw (get_or_default numbers k d 0 within) (lower k low)))
        (λ high. inr (rw (get_or_default numbers k d 0 within) (higher k high within)))
        (cases_lt k i))))
      where
        by_side : (m : ℕ) → (m < n) ⊎ (n < m) → (m == n) ≡ false
        by_side m (inl less) = below m less
        by_side m (inr more) = above m more

-- ---- the first bad number

-- two tests that answer alike find the same
wrong-same : {X : Type 0} (number : X → ℕ) (p q : X → Bool) → ((x : X) → p x ≡ q x) → (before : ℕ)
    (xs : List X) → first_wrong number p before xs ≡ first_wrong number q before xs
wrong-same number p q same before [] = refl
wrong-same number p q same before (x ∷ xs) =
    ap (λ b. if not (nat_lt before (number x)) || b then Some (number x) else first_wrong number p (number x) xs)
    (same x)
    ∙ ap (λ r. if not (nat_lt before (number x)) || q x then Some (number x) else r)
    (wrong-same number p q same (number x) xs)

-- a number stands in one of three lists where products have it
taken-same : {X Y Z : Type 0} (a : X → ℕ) (b : Y → ℕ) (c : Z → ℕ) (xs : List X) (ys : List Y) (zs : List Z)
    (first second third : List ℕ) → HasNumbersOf a xs first → HasNumbersOf b ys second
    → HasNumbersOf c zs third → (n : ℕ)
    → is_taken first second third n ≡ (has_number a xs n || has_number b ys n || has_number c zs n)
taken-same a b c xs ys zs first second third of_first of_second of_third n =
    ap (λ t. t || has second n || has third n) (of_first n)
    ∙ ap (λ t. has_number a xs n || t || has third n) (of_second n)
    ∙ ap (λ t. has_number a xs n || has_number b ys n || t) (of_third n)

four_alike : {a b c d e f g h : Option ℕ} → a ≡ e → b ≡ f → c ≡ g → d ≡ h
    → or_else a (or_else b (or_else c d)) ≡ or_else e (or_else f (or_else g h))
four_alike {a} {b} {c} {d} {e} {f} {g} {h} first second third fourth =
    ap (λ t. or_else t (or_else b (or_else c d))) first
    ∙ ap (λ t. or_else e (or_else t (or_else c d))) second
    ∙ ap (λ t. or_else e (or_else f (or_else t d))) third
    ∙ ap (λ t. or_else e (or_else f (or_else g t))) fourth

-- the products and, list by list, their numbers
module _ (spaces : List Space) (elements : List Element) (openings : List Opening)
    (fillings : List Filling) (u : unit.Unit) (ground_height : ℤ) (reach : ℕ) (of_space of_element of_opening of_filling : List ℕ)
    (spaces_are : HasNumbersOf (λ (s : Space). s.number) spaces of_space)
    (elements_are : HasNumbersOf (λ (e : Element). e.number) elements of_element)
    (openings_are : HasNumbersOf (λ (o : Opening). o.number) openings of_opening)
    (fillings_are : HasNumbersOf (λ (f : Filling). f.number) fillings of_filling) where
  -- by the lists of numbers the first bad number is found
  pub first_bad-found : (space element opening filling : Option ℕ)
      → space ≡ first_wrong (λ (s : Space). s.number) (λ s. is_taken of_element of_opening of_filling s.number) 0 spaces
      → element ≡ first_wrong (λ (e : Element). e.number) (λ e. is_taken of_space of_opening of_filling e.number) 0 elements
      → opening ≡ first_wrong (λ (o : Opening). o.number) (λ o. is_taken of_space of_element of_filling o.number || not (has of_element o.element)) 0 openings
      → filling ≡ first_wrong (λ (f : Filling). f.number) (λ f. is_taken of_space of_element of_opening f.number || not (has of_opening f.opening)) 0 fillings
      → or_else space (or_else element (or_else opening filling)) ≡ first_bad (building u ground_height reach spaces elements openings fillings)
  first_bad-found space element opening filling first second third fourth =
      four_alike
      (first ∙ wrong-same (λ (s : Space). s.number) _ _ (λ s. in_elements s.number) 0 spaces)
      (second ∙ wrong-same (λ (e : Element). e.number) _ _ (λ e. in_spaces e.number) 0 elements)
      (third ∙ wrong-same (λ (o : Opening). o.number) _ _ names_element 0 openings)
      (fourth ∙ wrong-same (λ (f : Filling). f.number) _ _ names_opening 0 fillings)
    where
      is_space : ℕ → Bool
      is_space = has_number (λ (s : Space). s.number) spaces

      is_element : ℕ → Bool
      is_element = has_number (λ (e : Element). e.number) elements

      is_opening : ℕ → Bool
      is_opening = has_number (λ (o : Opening). o.number) openings

      is_filling : ℕ → Bool
      is_filling = has_number (λ (f : Filling). f.number) fillings

      in_elements : (n : ℕ) → is_taken of_element of_opening of_filling n
          ≡ (is_element n || is_opening n || is_filling n)
      in_elements = taken-same (λ (e : Element). e.number) (λ (o : Opening). o.number) (λ (f : Filling). f.number)
          elements openings fillings of_element of_opening of_filling elements_are openings_are fillings_are

      in_spaces : (n : ℕ) → is_taken of_space of_opening of_filling n
          ≡ (is_space n || is_opening n || is_filling n)
      in_spaces = taken-same (λ (s : Space). s.number) (λ (o : Opening). o.number) (λ (f : Filling). f.number)
          spaces openings fillings of_space of_opening of_filling spaces_are openings_are fillings_are

      names_element : (o : Opening)
          → (is_taken of_space of_element of_filling o.number || not (has of_element o.element))
          ≡ (is_space o.number || is_element o.number || is_filling o.number || not (is_element o.element))
      names_element o =
          ap (λ t. t || not (has of_element o.element))
          (taken-same (λ (s : Space). s.number) (λ (e : Element). e.number) (λ (f : Filling). f.number)
          spaces elements fillings of_space of_element of_filling spaces_are elements_are fillings_are o.number)
          ∙ ap (λ t. is_space o.number || is_element o.number || is_filling o.number || not t)
          (elements_are o.element)

      names_opening : (f : Filling)
          → (is_taken of_space of_element of_opening f.number || not (has of_opening f.opening))
          ≡ (is_space f.number || is_element f.number || is_opening f.number || not (is_opening f.opening))
      names_opening f =
          ap (λ t. t || not (has of_opening f.opening))
          (taken-same (λ (s : Space). s.number) (λ (e : Element). e.number) (λ (o : Opening). o.number)
          spaces elements openings of_space of_element of_opening spaces_are elements_are openings_are f.number)
          ∙ ap (λ t. is_space f.number || is_element f.number || is_opening f.number || not t)
          (openings_are f.opening)
