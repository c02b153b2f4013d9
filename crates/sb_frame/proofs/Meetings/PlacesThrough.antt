-- Edge after edge the places of those that pass a test.

use Rattle.std.proofs.Common.{◌≡◌, refl, sym, ap, ◌∙◌, subst, arith, ℕ, zero, suc, ◌<◌, ◌≤◌, ◌+◌}
use Rattle.std.proofs.Common.{Bool, true, false, List, [], ◌∷◌, ◌++◌, map, length, drop, get_or}
use Rattle.std.proofs.Common.{add-one, if◌then◌else◌, append_assoc}
use Rattle.std.proofs.Math.Seq.{drop-cons}
use Rattle.theory_lines.specs.Slabs.{places_from}

module _ {X : Type 0} (test : X → Bool) (xs : List X) where
  -- those so far, and those among the items that are left
  abbrev pub PlacesTo : ℕ → List ℕ → Type 0
  PlacesTo n list = list ++ places_from test n (drop n xs) ≡ places_from test 0 xs

module _ {X : Type 0} (test : X → Bool) (xs : List X) (n : ℕ) (list : List ℕ) (x : X)
    (before : PlacesTo test xs n list) (there : n < length xs) (here : x ≡ get_or xs n x) where
  left : places_from test n (drop n xs)
      ≡ (if test x then n ∷ places_from test (suc n) (drop (suc n) xs)
      else places_from test (suc n) (drop (suc n) xs))
  left =
      ap (places_from test n)
      (drop-cons xs n x there ∙ ap (λ (y : X). y ∷ drop (suc n) xs) (sym here))

  -- an item that fails is passed over
  pub place_passed_over : test x ≡ false → PlacesTo test xs (n + 1) list
  place_passed_over fails =
      subst (λ k. PlacesTo test xs k list) (sym (add-one n))
      (ap (λ ns. list ++ ns)
      (sym
      (left
      ∙ ap (λ b. if b then n ∷ places_from test (suc n) (drop (suc n) xs)
      else places_from test (suc n) (drop (suc n) xs)) fails))
      ∙ before)

  -- the place of one that passes is put behind
  pub place_put_behind : test x ≡ true → PlacesTo test xs (n + 1) (list ++ n ∷ [])
  place_put_behind passes =
      subst (λ k. PlacesTo test xs k (list ++ n ∷ [])) (sym (add-one n))
      (append_assoc list (n ∷ []) (places_from test (suc n) (drop (suc n) xs))
      ∙ ap (λ ns. list ++ ns)
      (sym
      (left
      ∙ ap (λ b. if b then n ∷ places_from test (suc n) (drop (suc n) xs)
      else places_from test (suc n) (drop (suc n) xs)) passes))
      ∙ before)

dropped_all : {X : Type 0} (xs : List X) (n : ℕ) → length xs ≤ n → drop n xs ≡ []
dropped_all [] zero within = refl
dropped_all [] (suc n) within = refl
dropped_all (x ∷ xs) zero within = absurd (omega arith)
dropped_all (x ∷ xs) (suc n) within = dropped_all xs n (omega arith)

append_nil : {X : Type 0} (xs : List X) → xs ++ [] ≡ xs
append_nil [] = refl
append_nil {X} (x ∷ xs) = ap (λ (ys : List X). x ∷ ys) (append_nil xs)

-- at the end they are all
pub places_at_end : {X : Type 0} (test : X → Bool) (xs : List X) (n : ℕ) (list : List ℕ)
    → length xs ≤ n → PlacesTo test xs n list → list ≡ places_from test 0 xs
places_at_end test xs n list within before =
    sym (append_nil list)
    ∙ ap (λ ys. list ++ places_from test n ys) (sym (dropped_all xs n within))
    ∙ before

-- the places of items by what is made of them
pub places-map : {X Y : Type 0} (test : Y → Bool) (f : X → Y) (n : ℕ) (xs : List X)
    → places_from (λ x. test (f x)) n xs ≡ places_from test n (map f xs)
places-map test f n [] = refl
places-map test f n (x ∷ xs) =
    ap (λ ns. if test (f x) then n ∷ ns else ns) (places-map test f (suc n) xs)
