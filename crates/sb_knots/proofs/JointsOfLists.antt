-- What stands where two lists of numbers are joined, and whether it is linked.

use Rattle.std.proofs.Common.{◌≡◌, inl, inr, refl, sym, ap, ◌∙◌, arith, ℕ, zero, suc, ◌≤◌}
use Rattle.std.proofs.Common.{Bool, true, false, List, [], ◌∷◌, ◌++◌, length, take, map}
use Rattle.std.proofs.Common.{if◌then◌else◌}
use Rattle.std.specs.List.{AllByRecursion, slice_get}
use Rattle.std.proofs.lemmas.Bool.{and_parts}
use Rattle.theory_lists.specs.Members.{Stands, AllOfTwo}
use Rattle.theory_lists.specs.Parted.{IsPartedAt}
use Rattle.theory_lists.proofs.Parted.{parted}
use Rattle.theory_sweep.specs.Open.{AllNeighbours, last_item, first_item}
use Rattle.sb_blocks.specs.Places.{item_before}
use Rattle.sb_knots.specs.Steps.{are_linked, drop_first, listed}

-- ---- the items beside a place

pub last_before : (xs ys : List ℕ) (n : ℕ) → n ≤ length xs
    → listed (item_before (take n xs ++ ys) n) ≡ last_item (take n xs)
last_before xs ys zero within = refl
last_before [] ys (suc n) within = absurd (omega arith)
last_before (x ∷ xs) ys (suc zero) within = refl
last_before (x ∷ []) ys (suc (suc n)) within = absurd (omega arith)
last_before (x ∷ z ∷ zs) ys (suc (suc n)) within = last_before (z ∷ zs) ys (suc n) (omega arith)

pub first_behind : (xs ys : List ℕ) (n : ℕ) → n ≤ length xs
    → listed (slice_get (take n xs ++ ys) n) ≡ first_item ys
first_behind xs [] zero within = refl
first_behind xs (y ∷ ys) zero within = refl
first_behind [] ys (suc n) within = absurd (omega arith)
first_behind (x ∷ xs) ys (suc n) within = first_behind xs ys n (omega arith)

-- ---- images

pub last-map : {X : Type 0} (f : ℕ → X) (xs : List ℕ) → last_item (map f xs) ≡ map f (last_item xs)
last-map f [] = refl
last-map f (x ∷ []) = refl
last-map f (x ∷ y ∷ ys) = last-map f (y ∷ ys)

pub first-map : {X : Type 0} (f : ℕ → X) (xs : List ℕ) → first_item (map f xs) ≡ map f
    (first_item xs)
first-map f [] = refl
first-map f (x ∷ xs) = refl

-- ---- links

-- neighbours that are linked
pub linked_neighbours : {X : Type 0} (f : ℕ → X) (test : X → X → Bool) (xs : List ℕ)
    → are_linked (λ x y. test (f x) (f y)) xs ≡ true
    → AllNeighbours (λ e g. test e g ≡ true) (map f xs)
linked_neighbours f test [] linked = tt
linked_neighbours f test (x ∷ []) linked = tt
linked_neighbours f test (x ∷ y ∷ ys) linked =
    let parts = and_parts (test (f x) (f y)) (are_linked (λ x y. test (f x) (f y))
    (y ∷ ys)) linked in
    (parts.0, linked_neighbours f test (y ∷ ys) parts.1)

-- two that are not
pub not_linked : {X : Type 0} (f : ℕ → X) (test : X → X → Bool) (xs : List ℕ)
    → are_linked (λ x y. test (f x) (f y)) xs ≡ false
    → (e : X) × ((g : X) × (Stands e (map f xs) × (Stands g (map f xs) × (test e g ≡ false))))
not_linked {X = X} f test [] fails = absurd cc
not_linked {X = X} f test (x ∷ []) fails = absurd cc
not_linked {X = X} f test (x ∷ y ∷ ys) fails = by (test (f x) (f y)) refl (not_linked f test
    (y ∷ ys))
  where
    by : (b : Bool) → test (f x) (f y) ≡ b
        → (are_linked (λ x y. test (f x) (f y)) (y ∷ ys) ≡ false
        → (e : X) × ((g : X) × (Stands e (map f (y ∷ ys)) × (Stands g (map f (y ∷ ys)) × (test e g
        ≡ false)))))
        → (e : X) × ((g : X) × (Stands e (map f (x ∷ y ∷ ys)) × (Stands g (map f (x ∷ y ∷ ys)) ×
        (test e g ≡ false))))
    by false here rest = (f x, (f y, (inl refl, (inr (inl refl), here))))
    by true here rest = further (rest (rw here at fails))
      where
        further : (e : X) × ((g : X) × (Stands e (map f (y ∷ ys)) × (Stands g (map f (y ∷ ys)) ×
            (test e g ≡ false))))
            → (e : X) × ((g : X) × (Stands e (map f (x ∷ y ∷ ys)) × (Stands g (map f
            (x ∷ y ∷ ys)) × (test e g ≡ false))))
        further (e, (g, known)) = (e, (g, (inr known.0, (inr known.1.0, known.1.1))))

-- what stands there stands in the lists
pub last_stands : {X : Type 0} (x : X) (xs : List X) → Stands x (last_item xs) → Stands x xs
last_stands x [] at = at
last_stands x (y ∷ []) at = at
last_stands x (y ∷ z ∷ zs) at = inr (last_stands x (z ∷ zs) at)

pub first_stands : {X : Type 0} (x : X) (xs : List X) → Stands x (first_item xs) → Stands x xs
first_stands x [] at = at
first_stands x (y ∷ ys) (inl one) = inl one
first_stands x (y ∷ ys) (inr none) = absurd none

-- ---- items that pass first

-- the ones that are dropped
abbrev pub take_first : (ℕ → Bool) → List ℕ → List ℕ
take_first test [] = []
take_first test (x ∷ xs) = if test x then x ∷ take_first test xs else []

pub first_and_rest : (test : ℕ → Bool) (xs : List ℕ) → take_first test xs ++ drop_first test xs ≡ xs
first_and_rest test [] = refl
first_and_rest test (x ∷ xs) = by (test x) refl (first_and_rest test xs)
  where
    by : (b : Bool) → test x ≡ b → take_first test xs ++ drop_first test xs ≡ xs
        → take_first test (x ∷ xs) ++ drop_first test (x ∷ xs) ≡ x ∷ xs
    by true passes rest = rw passes (ap (λ t. x ∷ t) rest)
    by false fails rest = rw fails refl

pub first_pass : (test : ℕ → Bool) (xs : List ℕ)
    → AllByRecursion (λ x. test x ≡ true) (take_first test xs)
first_pass test [] = tt
first_pass test (x ∷ xs) = by (test x) refl (first_pass test xs)
  where
    by : (b : Bool) → test x ≡ b → AllByRecursion (λ x. test x ≡ true) (take_first test xs)
        → AllByRecursion (λ x. test x ≡ true) (take_first test (x ∷ xs))
    by true passes rest = rw passes (passes, rest)
    by false fails rest = rw fails tt

pub rest_keeps : (P : ℕ → Type 0) (test : ℕ → Bool) (xs : List ℕ) → AllByRecursion P xs
    → AllByRecursion P (drop_first test xs)
rest_keeps P test [] all = tt
rest_keeps P test (x ∷ xs) all = by (test x) refl (rest_keeps P test xs all.1)
  where
    by : (b : Bool) → test x ≡ b → AllByRecursion P (drop_first test xs)
        → AllByRecursion P (drop_first test (x ∷ xs))
    by true passes rest = rw passes rest
    by false fails rest = rw fails all

pub rest_fails : (test : ℕ → Bool) (xs : List ℕ) (x : ℕ) (ys : List ℕ)
    → drop_first test xs ≡ x ∷ ys → test x ≡ false
rest_fails test [] x ys is = absurd cc
rest_fails test (z ∷ xs) x ys is = by (test z) refl (rest_fails test xs x ys)
  where
    by : (b : Bool) → test z ≡ b → (drop_first test xs ≡ x ∷ ys → test x ≡ false) → test x ≡ false
    by true passes rest = rest (rw passes at is)
    by false fails rest = let same : z ≡ x = cc (rw fails at is) in ap test (sym same) ∙ fails

-- ---- a list in two parts

-- the number of the first ones is at most that of all
pub parted_within : (test : ℕ → Bool) (xs : List ℕ)
    → AllOfTwo (λ x y. test y ≡ true → test x ≡ true) xs
    → (n : ℕ) × ((n ≤ length xs) × IsPartedAt test n xs)
parted_within test xs falls = from (parted test xs falls)
  where
    fewer : (n : ℕ) (ys : List ℕ) → IsPartedAt test n ys → (m : ℕ) ×
        ((m ≤ length ys) × IsPartedAt test m ys)
    fewer zero ys is = (zero, (omega arith, is))
    fewer (suc n) [] is = (zero, (omega arith, record { first = tt; rest = tt }))
    fewer (suc n) (y ∷ ys) is = more (fewer n ys (record { first = is.first.1; rest = is.rest }))
      where
        more : (m : ℕ) × ((m ≤ length ys) × IsPartedAt test m ys)
            → (m : ℕ) × ((m ≤ length (y ∷ ys)) × IsPartedAt test m (y ∷ ys))
        more (m, found) =
            let low = found.0 in (
              suc m,
              (
                omega arith,
                record { first = (is.first.0, found.1.first); rest = found.1.rest },
              ),
            )

    from : (n : ℕ) × IsPartedAt test n xs → (n : ℕ) × ((n ≤ length xs) × IsPartedAt test n xs)
    from (n, is) = fewer n xs is
