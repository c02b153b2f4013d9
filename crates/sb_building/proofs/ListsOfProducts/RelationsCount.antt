-- The relation that counts of an opening names an element that is taken, and that of a filling an opening.
use Rattle.std.proofs.Common.{◌≡◌, ◌⊎◌, ℕ, nat_eq, min, nat_le, Bool, true, false, ◌&&◌, List, [], ◌∷◌, filter, Option, Some, None, option_map, is_some, refl, sym, ap, ◌∙◌, subst, inl, inr, arith}
use Rattle.std.specs.Prelude.{option_and_then, if◌then◌else◌}
use Rattle.std.specs.Option.{option_map_or}
use Rattle.std.proofs.lemmas.Bool.{false≢true, and_parts}
use Rattle.std.proofs.lemmas.Option.{same_Some}
use Rattle.theory_lists.specs.Members.{Stands}
use Rattle.sb_profile.specs.Entities.Entity.{rel_voids_element, rel_fills_element}
use Rattle.sb_profile.specs.Contents.{Contents}
use Rattle.sb_profile.specs.Lowest.{lower_of, lowest_of, lowest}
use Rattle.sb_profile.specs.Products.{is_element, is_opening, voiding, element_of, filling, opening_of}

-- the lowest of some numbers is one of them
lower_is : (n m : ℕ) (o : Option ℕ) → lower_of n o ≡ Some m → (m ≡ n) ⊎ (o ≡ Some m)
lower_is n m None is = inl (sym (same_Some n m is))
lower_is n m (Some k) is = by (same_Some (min n k) m is)
  where
    by : min n k ≡ m → (m ≡ n) ⊎ (◌≡◌ {A = Option ℕ} (Some k) (Some m))
    by same = either (nat_le n k) refl
      where
        either : (b : Bool) → nat_le n k ≡ b → (m ≡ n) ⊎ (◌≡◌ {A = Option ℕ} (Some k) (Some m))
        either true below = inl (grind (arith))
        either false above =
            let last : k ≡ m = grind (arith) in
            inr (ap Some last)

lowest_stands : (ns : List ℕ) (m : ℕ) → lowest_of ns ≡ Some m → Stands m ns
lowest_stands [] m none = absurd (cc none)
lowest_stands (n ∷ ns) m is = by (lower_is n m (lowest_of ns) is) (lowest_stands ns m)
  where
    by : (m ≡ n) ⊎ (lowest_of ns ≡ Some m) → (lowest_of ns ≡ Some m → Stands m ns) → Stands m (n ∷ ns)
    by (inl same) later = inl same
    by (inr is_later) later = inr (later is_later)

passed : (test : ℕ → Bool) (ns : List ℕ) (m : ℕ) → Stands m (filter test ns) → test m ≡ true
passed test [] m none = absurd none
passed test (n ∷ ns) m at = by (test n) refl at (passed test ns m)
  where
    by : (b : Bool) → test n ≡ b → Stands m (if b then n ∷ filter test ns else filter test ns)
        → (Stands m (filter test ns) → test m ≡ true) → test m ≡ true
    by true is (inl same) before = subst (λ k. test k ≡ true) (sym same) is
    by true is (inr later) before = before later
    by false is later before = before later

-- the lowest that passes a test passes it
pub lowest_passes : (c : Contents) (test : ℕ → Bool) (r : ℕ) → lowest c test ≡ Some r → test r ≡ true
lowest_passes c test r is = passed test c.numbers r (lowest_stands (filter test c.numbers) r is)

module _ (c : Contents) (given : ℕ → Option (ℕ × (ℕ × Unit {0}))) (test : ℕ → Bool) (n : ℕ) where
  abbrev names : ℕ → Bool
  names r = option_map_or (λ v. nat_eq n v.1.0 && test v.0) (given r) false

  abbrev target : Option ℕ
  target = option_and_then (λ r. option_map (λ v. v.0) (given r)) (lowest c names)

  -- a relation that names the number names what passes the test
  names_passing : (r : ℕ) → names r ≡ true → (e : ℕ) × (option_map (λ v. v.0) (given r) ≡ Some e) × (test e ≡ true)
  names_passing r is = by (given r) refl
    where
      by : (o : Option (ℕ × (ℕ × Unit {0}))) → given r ≡ o
          → (e : ℕ) × (option_map (λ v. v.0) (given r) ≡ Some e) × (test e ≡ true)
      by None none =
          absurd (false≢true (sym (ap (λ o. option_map_or (λ v. nat_eq n v.1.0 && test v.0) o false) none) ∙ is))
      by (Some v) some = (
        v.0,
        ap (option_map (λ w. w.0)) some,
        (and_parts (nat_eq n v.1.0) (test v.0)
            (sym (ap (λ o. option_map_or (λ w. nat_eq n w.1.0 && test w.0) o false) some) ∙ is)).1,
      )

  -- what the relation that counts says passes the test
  pub target_passes : (e : ℕ) → target ≡ Some e → test e ≡ true
  target_passes e is = by (lowest c names) refl
    where
      by : (o : Option ℕ) → lowest c names ≡ o → test e ≡ true
      by None none =
          let both : None ≡ Some e =
          sym (ap (option_and_then (λ r. option_map (λ v. v.0) (given r))) none) ∙ is in
          absurd (cc both)
      by (Some r) some =
          let (d, same, passes) = names_passing r (lowest_passes c names r some) in
          let both : Some d ≡ Some e =
          sym same ∙ sym (ap (option_and_then (λ q. option_map (λ v. v.0) (given q))) some) ∙ is in
          subst (λ k. test k ≡ true) (same_Some d e both) passes

  -- and where one counts it says something
  pub target_there : is_some (lowest c names) ≡ true → (e : ℕ) × (target ≡ Some e)
  target_there is = by (lowest c names) refl
    where
      by : (o : Option ℕ) → lowest c names ≡ o → (e : ℕ) × (target ≡ Some e)
      by None none = absurd (false≢true (sym (ap is_some none) ∙ is))
      by (Some r) some =
          let (d, same, passes) = names_passing r (lowest_passes c names r some) in
          (d, ap (option_and_then (λ q. option_map (λ v. v.0) (given q))) some ∙ same)

  pub target_counts : (e : ℕ) → target ≡ Some e → is_some (lowest c names) ≡ true
  target_counts e is = by (lowest c names) refl
    where
      by : (o : Option ℕ) → lowest c names ≡ o → is_some (lowest c names) ≡ true
      by None none =
          let both : None ≡ Some e =
          sym (ap (option_and_then (λ r. option_map (λ v. v.0) (given r))) none) ∙ is in
          absurd (cc both)
      by (Some r) some = ap is_some some

-- ---- openings and fillings

module _ (c : Contents) (n : ℕ) where
  pub element_is_taken : (e : ℕ) → element_of c n ≡ Some e → is_element c e ≡ true
  element_is_taken e is = target_passes c (c.given rel_voids_element) (is_element c) n e is

  pub opening_is_taken : (o : ℕ) → opening_of c n ≡ Some o → is_opening c o ≡ true
  opening_is_taken o is = target_passes c (c.given rel_fills_element) (is_opening c) n o is

  pub element_there : is_some (voiding c n) ≡ true → (e : ℕ) × (element_of c n ≡ Some e)
  element_there is = target_there c (c.given rel_voids_element) (is_element c) n is

  pub opening_there : is_some (filling c n) ≡ true → (o : ℕ) × (opening_of c n ≡ Some o)
  opening_there is = target_there c (c.given rel_fills_element) (is_opening c) n is

  pub filling_counts : (o : ℕ) → opening_of c n ≡ Some o → is_some (filling c n) ≡ true
  filling_counts o is = target_counts c (c.given rel_fills_element) (is_opening c) n o is
