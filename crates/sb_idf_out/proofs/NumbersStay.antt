-- A number in order of first use stays when the list grows.
use Rattle.std.proofs.Common.{◌≡◌, ℕ, suc, ◌+◌, Bool, true, false, ◌||◌, ◌&&◌, List, [], ◌∷◌, ◌++◌, length, map, refl, sym, ap, ◌∙◌, arith}
use Rattle.std.specs.Prelude.{if◌then◌else◌}
use Rattle.std.specs.Cmp.{IsEquivalence}
use Rattle.std.proofs.lemmas.Bool.{false≢true}
use Rattle.std.proofs.lemmas.List.{append_assoc, append-nil}
use Rattle.std.specs.List.{list_all}
use Rattle.sb_idf_out.specs.FirstUse.{has, with_new, with_all, number_in, in_order}
use Rattle.sb_idf_out.specs.Steps.Tables.{used_numbers}

module _ {X : Type 0} (same : X → X → Bool) where
  pub has_kept : (xs ys : List X) (x : X) → has same xs x ≡ true → has same (xs ++ ys) x ≡ true
  has_kept [] ys x is = absurd (false≢true is)
  has_kept (y ∷ xs) ys x is = by (same x y) is (has_kept xs ys x)
    where
      by : (b : Bool) → (b || has same xs x) ≡ true
          → (has same xs x ≡ true → has same (xs ++ ys) x ≡ true)
          → (b || has same (xs ++ ys) x) ≡ true
      by true either rest = refl
      by false either rest = rest either

  pub number_kept : (xs ys : List X) (x : X) → has same xs x ≡ true
      → number_in same (xs ++ ys) x ≡ number_in same xs x
  number_kept [] ys x is = absurd (false≢true is)
  number_kept (y ∷ xs) ys x is = by (same x y) is (number_kept xs ys x)
    where
      by : (b : Bool) → (b || has same xs x) ≡ true
          → (has same xs x ≡ true → number_in same (xs ++ ys) x ≡ number_in same xs x)
          → (if b then 1 else suc (number_in same (xs ++ ys) x))
          ≡ (if b then 1 else suc (number_in same xs x))
      by true either rest = refl
      by false either rest = ap suc (rest either)

  -- what the list has not gets the next number
  pub number_next : (xs : List X) (x : X) → has same xs x ≡ false
      → number_in same xs x ≡ suc (length xs)
  number_next [] x absent = refl
  number_next (y ∷ xs) x absent = by (same x y) absent (number_next xs x)
    where
      by : (b : Bool) → (b || has same xs x) ≡ false
          → (has same xs x ≡ false → number_in same xs x ≡ suc (length xs))
          → (if b then 1 else suc (number_in same xs x)) ≡ suc (suc (length xs))
      by true either rest = absurd (false≢true (sym either))
      by false either rest = ap suc (rest either)

  -- and has it where it is put behind
  pub number_behind : (xs : List X) (k x : X) → same x k ≡ true → has same xs x ≡ false
      → number_in same (xs ++ k ∷ []) x ≡ suc (length xs)
  number_behind [] k x is absent = rw is refl
  number_behind (y ∷ xs) k x is absent = by (same x y) absent (number_behind xs k x is)
    where
      by : (b : Bool) → (b || has same xs x) ≡ false
          → (has same xs x ≡ false → number_in same (xs ++ k ∷ []) x ≡ suc (length xs))
          → (if b then 1 else suc (number_in same (xs ++ k ∷ []) x)) ≡ suc (suc (length xs))
      by true either rest = absurd (false≢true (sym either))
      by false either rest = ap suc (rest either)

  pub has_behind : (xs : List X) (k x : X)
      → has same (xs ++ k ∷ []) x ≡ (has same xs x || same x k)
  has_behind [] k x = by (same x k)
    where
      by : (b : Bool) → (b || false) ≡ b
      by true = refl
      by false = refl
  has_behind (y ∷ xs) k x = by (same x y) (has_behind xs k x)
    where
      by : (b : Bool) → has same (xs ++ k ∷ []) x ≡ (has same xs x || same x k)
          → (b || has same (xs ++ k ∷ []) x) ≡ ((b || has same xs x) || same x k)
      by true rest = refl
      by false rest = rest

  -- a list grows at its end
  pub new_extends : (xs : List X) (x : X) → (more : List X) × (with_new same xs x ≡ xs ++ more)
  new_extends xs x = by (has same xs x)
    where
      by : (b : Bool) → (more : List X) × ((if b then xs else xs ++ x ∷ []) ≡ xs ++ more)
      by true = ([], sym (append-nil xs))
      by false = (x ∷ [], refl)

  pub all_extends : (xs ys : List X) → (more : List X) × (with_all same xs ys ≡ xs ++ more)
  all_extends xs [] = ([], sym (append-nil xs))
  all_extends xs (y ∷ ys) =
      let one = new_extends xs y in
      let rest = all_extends (with_new same xs y) ys in
      (one.0 ++ rest.0, rest.1 ∙ (ap (λ l. l ++ rest.0) one.1 ∙ append_assoc xs one.0 rest.0))

  pub has_in_all : (xs ys : List X) (x : X) → has same xs x ≡ true
      → has same (with_all same xs ys) x ≡ true
  has_in_all xs ys x is =
      let more = all_extends xs ys in ap (λ l. has same l x) more.1 ∙ has_kept xs more.0 x is

  pub number_in_all : (xs ys : List X) (x : X) → has same xs x ≡ true
      → number_in same (with_all same xs ys) x ≡ number_in same xs x
  number_in_all xs ys x is =
      let more = all_extends xs ys in ap (λ l. number_in same l x) more.1 ∙ number_kept xs more.0 x is

  pub all-append : (found xs ys : List X)
      → with_all same found (xs ++ ys) ≡ with_all same (with_all same found xs) ys
  all-append found [] ys = refl
  all-append found (x ∷ xs) ys = all-append (with_new same found x) xs ys

  -- those that a list has keep their numbers
  pub numbers_kept : (xs ys zs : List X) → list_all (λ x. has same xs x) zs ≡ true
      → map (number_in same (xs ++ ys)) zs ≡ map (number_in same xs) zs
  numbers_kept xs ys [] all = refl
  numbers_kept xs ys (z ∷ zs) all = by (has same xs z) refl all (numbers_kept xs ys zs)
    where
      by : (b : Bool) → has same xs z ≡ b → (b && list_all (λ x. has same xs x) zs) ≡ true
          → (list_all (λ x. has same xs x) zs ≡ true
          → map (number_in same (xs ++ ys)) zs ≡ map (number_in same xs) zs)
          → number_in same (xs ++ ys) z ∷ map (number_in same (xs ++ ys)) zs
          ≡ number_in same xs z ∷ map (number_in same xs) zs
      by true is both rest = λ i. number_kept xs ys z is i ∷ rest both i
      by false is both rest = absurd (false≢true both)

  pub all_push : (found xs : List X) (x : X)
      → with_all same found (xs ++ x ∷ []) ≡ with_new same (with_all same found xs) x
  all_push found xs x = all-append found xs (x ∷ [])

  pub used_push : (found xs : List X) (x : X)
      → used_numbers same found (xs ++ x ∷ [])
      ≡ used_numbers same found xs ++ number_in same (with_all same found xs) x ∷ []
  used_push found [] x = refl
  used_push found (y ∷ xs) x = ap (λ l. number_in same found y ∷ l) (used_push (with_new same found y) xs x)

  module _ (law : IsEquivalence same) where
    pub has_new : (xs : List X) (x : X) → has same (with_new same xs x) x ≡ true
    has_new xs x = by (has same xs x) refl
      where
        by : (b : Bool) → has same xs x ≡ b → has same (if b then xs else xs ++ x ∷ []) x ≡ true
        by true is = is
        by false absent = has_behind xs x x ∙ rw (absent, law.refl x) refl

    pub number_new : (xs : List X) (x : X)
        → number_in same (with_new same xs x) x ≡ number_in same xs x
    number_new xs x = by (has same xs x) refl
      where
        by : (b : Bool) → has same xs x ≡ b
            → number_in same (if b then xs else xs ++ x ∷ []) x ≡ number_in same xs x
        by true is = refl
        by false absent = number_behind xs x x (law.refl x) absent ∙ sym (number_next xs x absent)

    -- the numbers that are known on the way are those of the whole list
    pub used_are_numbers : (found xs : List X)
        → used_numbers same found xs ≡ map (number_in same (with_all same found xs)) xs
    used_are_numbers found [] = refl
    used_are_numbers found (x ∷ xs) =
        let first = number_in_all (with_new same found x) xs x (has_new found x) ∙ number_new found x in
        let rest = used_are_numbers (with_new same found x) xs in
        λ i. sym first i ∷ rest i

    -- a list has all that was put behind it
    pub has_all : (found xs : List X)
        → list_all (λ x. has same (with_all same found xs) x) xs ≡ true
    has_all found [] = refl
    has_all found (x ∷ xs) =
        let first = has_in_all (with_new same found x) xs x (has_new found x) in
        rw first (has_all (with_new same found x) xs)

pub order_push : {X : Type 0} (text : ℕ → X → List ℕ) (n : ℕ) (xs : List X) (x : X) (k : ℕ)
    → k ≡ n + length xs → in_order text n (xs ++ x ∷ []) ≡ in_order text n xs ++ text k x
order_push text n [] x k is =
    let at : n ≡ k = omega arith in append-nil (text n x) ∙ ap (λ j. text j x) at
order_push text n (y ∷ xs) x k is =
    let at : k ≡ suc n + length xs = omega arith in
    ap (λ l. text n y ++ l) (order_push text (suc n) xs x k at)
    ∙ sym (append_assoc (text n y) (in_order text (suc n) xs) (text k x))
