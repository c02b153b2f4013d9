-- Of items in order of number: where two tests have one lowest item, so has each test that answers as
-- they do where they agree.
use Rattle.std.proofs.Common.{◌≡◌, refl, sym, ap, ◌∙◌, arith, ℕ, ◌<◌, Bool, true, false, cond}
use Rattle.std.proofs.Common.{nat_le, List, [], ◌∷◌, Option, Some, None, option_map}
use Rattle.std.proofs.lemmas.Bool.{le-leb}
use Rattle.std.proofs.lemmas.Option.{none-some}
use Rattle.std.specs.List.{AllByRecursion}
use Rattle.theory_lists.specs.Members.{AllOfTwo}
use Rattle.sb_model.specs.Labels.{lower_of, lowest}

module _ {X : Type 0} (number : X → ℕ) where
  -- the numbers rise
  abbrev Rising : List X → Type 0
  Rising xs = AllOfTwo (λ x y. number x < number y) xs

  -- the lowest item has a greater number than one before the list
  lowest_is_greater : (n : ℕ) (test : X → Bool) (xs : List X)
      → AllByRecursion (λ y. n < number y) xs → (y : X) → lowest number test xs ≡ Some y
      → n < number y
  lowest_is_greater n test [] above y found = absurd (none-some y found)
  lowest_is_greater n test (x ∷ xs) above y found =
      by (test x) (lowest number test xs) (lowest_is_greater n test xs above.1) found
    where
      of_two : (o : Option X) → ((z : X) → o ≡ Some z → n < number z)
          → Some (lower_of number x o) ≡ Some y → n < number y
      of_two None later same = let e : x ≡ y = cc in rw (sym e) above.0
      of_two (Some z) later same = by_order (nat_le (number x) (number z)) same
        where
          by_order : (b : Bool) → Some (cond b x z) ≡ Some y → n < number y
          by_order true same = let e : x ≡ y = cc in rw (sym e) above.0
          by_order false same = let e : z ≡ y = cc in rw (sym e) (later z refl)

      by : (b : Bool) (o : Option X) → ((z : X) → o ≡ Some z → n < number z)
          → cond b (Some (lower_of number x o)) o ≡ Some y → n < number y
      by true o later same = of_two o later same
      by false o later same = later y same

  -- where the first item passes it is the lowest
  first_is_lowest : (test : X → Bool) (x : X) (xs : List X)
      → AllByRecursion (λ y. number x < number y) xs → test x ≡ true
      → lowest number test (x ∷ xs) ≡ Some x
  first_is_lowest test x xs above passes =
      ap (λ b. cond b (Some (lower_of number x (lowest number test xs))) (lowest number test xs))
      passes
      ∙ by (lowest number test xs) refl
    where
      by : (o : Option X) → lowest number test xs ≡ o
          → Some (lower_of number x (lowest number test xs)) ≡ Some x
      by None none = ap (λ o. Some (lower_of number x o)) none
      by (Some y) later =
          ap (λ o. Some (lower_of number x o)) later
          ∙ ap (λ b. Some (cond b x y)) (le-leb (number x) (number y) (omega (arith, less)))
        where
          less : number x < number y
          less = lowest_is_greater (number x) test xs above y later

  first_fails : (test : X → Bool) (x : X) (xs : List X) → test x ≡ false
      → lowest number test (x ∷ xs) ≡ lowest number test xs
  first_fails test x xs fails =
      ap (λ b. cond b (Some (lower_of number x (lowest number test xs))) (lowest number test xs))
      fails

  -- where two tests have one lowest number
  abbrev HaveOneLowest : (X → Bool) → (X → Bool) → List X → Type 0
  HaveOneLowest p q xs =
      option_map number (lowest number p xs) ≡ option_map number (lowest number q xs)

  not_both : (p : X → Bool) (x : X) (xs : List X) → AllByRecursion (λ y. number x < number y) xs
      → Some (number x) ≡ option_map number (lowest number p xs) → ⊥
  not_both p x xs above same = by (lowest number p xs) refl
    where
      by : (o : Option X) → lowest number p xs ≡ o → ⊥
      by None none = none-some (number x) (sym (same ∙ ap (option_map number) none))
      by (Some y) later =
          let e : Some (number x) ≡ Some (number y) = same ∙ ap (option_map number) later in
          let equal : number x ≡ number y = cc in
          let less = lowest_is_greater (number x) p xs above y later in
          omega arith

  -- so has each test that answers as they do where they agree
  pub between_lowest : (p q r : X → Bool) → ((x : X) → p x ≡ q x → r x ≡ p x) → (xs : List X)
      → Rising xs → HaveOneLowest p q xs → lowest number r xs ≡ lowest number p xs
  between_lowest p q r between [] rise same = refl
  between_lowest p q r between (x ∷ xs) rise same =
      by (p x) (q x) refl refl (between_lowest p q r between xs rise.1)
    where
      by : (b c : Bool) → p x ≡ b → q x ≡ c
          → (HaveOneLowest p q xs → lowest number r xs ≡ lowest number p xs)
          → lowest number r (x ∷ xs) ≡ lowest number p (x ∷ xs)
      by true true p_is q_is later =
          first_is_lowest r x xs rise.0 (between x (p_is ∙ sym q_is) ∙ p_is)
          ∙ sym (first_is_lowest p x xs rise.0 p_is)
      by false false p_is q_is later =
          first_fails r x xs (between x (p_is ∙ sym q_is) ∙ p_is)
          ∙ later
          (ap (option_map number) (sym (first_fails p x xs p_is)) ∙ same
          ∙ ap (option_map number) (first_fails q x xs q_is))
          ∙ sym (first_fails p x xs p_is)
      by true false p_is q_is later =
          absurd
          (not_both q x xs rise.0
          (ap (option_map number) (sym (first_is_lowest p x xs rise.0 p_is)) ∙ same
          ∙ ap (option_map number) (first_fails q x xs q_is)))
      by false true p_is q_is later =
          absurd
          (not_both p x xs rise.0
          (ap (option_map number) (sym (first_is_lowest q x xs rise.0 q_is)) ∙ sym same
          ∙ ap (option_map number) (first_fails p x xs p_is)))
