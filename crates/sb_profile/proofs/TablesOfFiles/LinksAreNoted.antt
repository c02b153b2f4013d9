-- Relations are noted one after another, and what is unfit of them is lowered: a loop's step, and what
-- they come to: the lowest that names a number.
use Rattle.std.proofs.Common.{◌≡◌, ℕ, ◌+◌, ◌<◌, ◌≤◌, ◌⊎◌, inl, inr, min, Bool, true, false, List, [], ◌∷◌, ◌++◌, length, get_or, take, nat_lt, Option, Some, None, option_map, refl, sym, ap, ◌∙◌, arith}
use Rattle.std.specs.Prelude.{filter, if◌then◌else◌}
use Rattle.std.proofs.lemmas.Bool.{cases_lt}
use Rattle.std.proofs.lemmas.Bool.Decides.{nat_tests}
use Rattle.std.proofs.lemmas.List.{take_more}
use Rattle.std.proofs.lemmas.List.Elements.{filter_more}
use Rattle.sb_profile.specs.declared.reading.links.Link.{Link}
use Rattle.sb_profile.specs.Lowest.{lower_of, lower_if, lowest_of}
use Rattle.sb_profile.specs.Steps.Links.{link, lower_link, noted, noted_all, lowered}
use Rattle.sb_profile.proofs.LowestOfAList.{lower_swap}

-- ---- a loop's step

noted_push : (step : ℕ → Option Link → Option Link) (found : Option Link) (rs : List ℕ) (r : ℕ)
    → noted_all step found (rs ++ r ∷ []) ≡ step r (noted_all step found rs)
noted_push step found [] r = refl
noted_push step found (s ∷ rs) r = noted_push step (step s found) rs r

pub noted_more : (step : ℕ → Option Link → Option Link) (found : Option Link) (xs : List ℕ) (i : ℕ)
    → i < length xs
    → step (get_or xs i 0) (noted_all step found (take i xs)) ≡ noted_all step found (take (i + 1) xs)
noted_more step found xs i within =
    sym (ap (noted_all step found) (take_more xs i 0 within)
    ∙ noted_push step found (take i xs) (get_or xs i 0))

lowered_kept : (found : Option ℕ) (ns : List ℕ) (n : ℕ) (b : Bool)
    → lowered found (ns ++ (if b then n ∷ [] else [])) ≡ lower_if b n (lowered found ns)
lowered_kept found [] n true = refl
lowered_kept found [] n false = refl
lowered_kept found (m ∷ ns) n b = lowered_kept (lower_of m found) ns n b

pub lowered_more : (test : ℕ → Bool) (found : Option ℕ) (xs : List ℕ) (i : ℕ) → i < length xs
    → lower_if (test (get_or xs i 0)) (get_or xs i 0) (lowered found (filter test (take i xs)))
    ≡ lowered found (filter test (take (i + 1) xs))
lowered_more test found xs i within =
    sym (ap (lowered found) (filter_more test xs i 0 within)
    ∙ lowered_kept found (filter test (take i xs)) (get_or xs i 0) (test (get_or xs i 0)))

-- ---- what it comes to

lowered_first : (n : ℕ) (found : Option ℕ) (ns : List ℕ)
    → lowered (lower_of n found) ns ≡ lower_of n (lowered found ns)
lowered_first n found [] = refl
lowered_first n found (m ∷ ns) =
    ap (λ o. lowered o ns) (lower_swap m n found) ∙ lowered_first n (lower_of m found) ns

-- from nothing on it is the lowest
pub lowered_none : (ns : List ℕ) → lowered None ns ≡ lowest_of ns
lowered_none [] = refl
lowered_none (n ∷ ns) = lowered_first n None ns ∙ ap (lower_of n) (lowered_none ns)

-- one list after another
pub lowered-append : (found : Option ℕ) (ms ns : List ℕ)
    → lowered found (ms ++ ns) ≡ lowered (lowered found ms) ns
lowered-append found [] ns = refl
lowered-append found (m ∷ ms) ns = lowered-append (lower_of m found) ms ns

module _ (target : ℕ → ℕ) where
  -- what a relation says
  abbrev pub linked : ℕ → Link
  linked r = link r (target r)

  lower_linked : (r : ℕ) (found : Option ℕ)
      → Some (lower_link (linked r) (option_map linked found)) ≡ option_map linked (lower_of r found)
  lower_linked r None = refl
  lower_linked r (Some m) = by_order (cases_lt m r)
    where
      by_order : (m < r) ⊎ (r ≤ m)
          → Some (lower_link (linked r) (Some (linked m))) ≡ Some (linked (min r m))
      by_order (inl below) =
          let test : nat_lt m r ≡ true = grind (arith, nat_tests) in
          let least : m ≡ min r m = omega arith in
          rw test (ap (λ k. Some (linked k)) least)
      by_order (inr above) =
          let test : nat_lt m r ≡ false = grind (arith, nat_tests) in
          let least : r ≡ min r m = omega arith in
          rw test (ap (λ k. Some (linked k)) least)

  module _ (step : ℕ → Option Link → Option Link) (names : ℕ → Bool)
      (steps : (r : ℕ) (found : Option Link) → step r found ≡ noted (names r) (linked r) found) where
    from_any : (found : Option ℕ) (rs : List ℕ)
        → noted_all step (option_map linked found) rs
        ≡ option_map linked (lowered found (filter names rs))
    from_any found [] = refl
    from_any found (r ∷ rs) =
        by_test (names r) refl (from_any (lower_of r found) rs) (from_any found rs)
      where
        by_test : (b : Bool) → names r ≡ b
            → noted_all step (option_map linked (lower_of r found)) rs
            ≡ option_map linked (lowered (lower_of r found) (filter names rs))
            → noted_all step (option_map linked found) rs
            ≡ option_map linked (lowered found (filter names rs))
            → noted_all step (step r (option_map linked found)) rs
            ≡ option_map linked (lowered found (filter names (r ∷ rs)))
        by_test true is with_it without =
            ap (λ o. noted_all step o rs)
            (steps r (option_map linked found)
            ∙ (ap (λ b. noted b (linked r) (option_map linked found)) is
            ∙ lower_linked r found))
            ∙ rw is with_it
        by_test false is with_it without =
            ap (λ o. noted_all step o rs)
            (steps r (option_map linked found)
            ∙ ap (λ b. noted b (linked r) (option_map linked found)) is)
            ∙ rw is without

    -- where each relation that names the number notes what it says, the lowest is found
    pub noted_is_lowest : (rs : List ℕ)
        → noted_all step None rs ≡ option_map linked (lowest_of (filter names rs))
    noted_is_lowest rs = from_any None rs ∙ ap (option_map linked) (lowered_none (filter names rs))

-- lists one after another, as they are read
pub lowered_then : (u v w : Option ℕ) (a rest : List ℕ) → v ≡ lowered u a → w ≡ lowered v rest
    → w ≡ lowered u (a ++ rest)
lowered_then u v w a rest first then_rest =
    then_rest ∙ (ap (λ o. lowered o rest) first ∙ sym (lowered-append u a rest))
