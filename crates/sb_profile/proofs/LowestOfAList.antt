-- The lowest number of a list: with one more at its end, which it is, and what it is of a set.
use Rattle.std.proofs.Common.{◌≡◌, ℕ, ◌+◌, ◌<◌, ◌≤◌, ◌⊎◌, inl, inr, min, Bool, true, false, List, [], ◌∷◌, ◌++◌, length, get_or, take, Option, Some, None, refl, sym, ap, ◌∙◌, subst, arith}
use Rattle.std.specs.Prelude.{filter}
use Rattle.std.specs.Prelude.{if◌then◌else◌}
use Rattle.std.proofs.lemmas.Bool.{cases_lt}
use Rattle.std.proofs.lemmas.List.{take_more, append-nil}
use Rattle.std.proofs.lemmas.List.Elements.{filter_more}
use Rattle.std.proofs.lemmas.Option.{same_Some}
use Rattle.theory_lists.specs.Members.{Stands}
use Rattle.sb_profile.specs.Lowest.{lower_of, lower_if, lowest_of, IsLowest}

-- it does not matter which of two comes first
pub lower_swap : (m n : ℕ) (o : Option ℕ) → lower_of m (lower_of n o) ≡ lower_of n (lower_of m o)
lower_swap m n None = ap Some (omega arith)
lower_swap m n (Some k) = ap Some (omega arith)

-- with one more behind
pub lowest_push : (ns : List ℕ) (n : ℕ) → lowest_of (ns ++ n ∷ []) ≡ lower_of n (lowest_of ns)
lowest_push [] n = refl
lowest_push (m ∷ ns) n =
    ap (lower_of m) (lowest_push ns n) ∙ lower_swap m n (lowest_of ns)

-- a loop's step
pub lowest_more : (xs : List ℕ) (i : ℕ) → i < length xs
    → lower_of (get_or xs i 0) (lowest_of (take i xs)) ≡ lowest_of (take (i + 1) xs)
lowest_more xs i within =
    sym (ap lowest_of (take_more xs i 0 within) ∙ lowest_push (take i xs) (get_or xs i 0))

pub lowest_kept : (ns : List ℕ) (n : ℕ) (b : Bool)
    → lowest_of (ns ++ (if b then n ∷ [] else [])) ≡ lower_if b n (lowest_of ns)
lowest_kept ns n true = lowest_push ns n
lowest_kept ns n false = ap lowest_of (append-nil ns)

-- the same of those that pass a test
pub lowest_more_if : (test : ℕ → Bool) (xs : List ℕ) (i : ℕ) → i < length xs
    → lower_if (test (get_or xs i 0)) (get_or xs i 0) (lowest_of (filter test (take i xs)))
    ≡ lowest_of (filter test (take (i + 1) xs))
lowest_more_if test xs i within =
    sym (ap lowest_of (filter_more test xs i 0 within)
    ∙ lowest_kept (filter test (take i xs)) (get_or xs i 0) (test (get_or xs i 0)))

-- ---- which number it is

-- where there is none there is no number
pub lowest_none : (ns : List ℕ) (k : ℕ) → lowest_of ns ≡ None → Stands k ns → ⊥
lowest_none [] k is stands = stands
lowest_none (n ∷ ns) k is stands = some (lowest_of ns) is
  where
    some : (o : Option ℕ) → lower_of n o ≡ None → ⊥
    some None is = let e = is in cc
    some (Some m) is = let e = is in cc

-- it is one of them
pub lowest_stands : (ns : List ℕ) (m : ℕ) → lowest_of ns ≡ Some m → Stands m ns
lowest_stands [] m is = absurd (let e = is in cc)
lowest_stands (n ∷ ns) m is = from (lowest_of ns) (λ k later. lowest_stands ns k later) is
  where
    by_order : (k : ℕ) → Stands k ns → min n k ≡ m → (k < n) ⊎ (n ≤ k) → Stands m (n ∷ ns)
    by_order k stands least (inl lower) =
        inr (subst (λ q. Stands q ns) (let e : k ≡ m = omega arith in e) stands)
    by_order k stands least (inr other) = inl (omega arith)

    from : (o : Option ℕ) → ((k : ℕ) → o ≡ Some k → Stands k ns) → lower_of n o ≡ Some m
        → Stands m (n ∷ ns)
    from None later is = inl (sym (same_Some n m is))
    from (Some k) later is = by_order k (later k refl) (same_Some (min n k) m is) (cases_lt k n)

-- and none is lower
pub lowest_below : (ns : List ℕ) (m k : ℕ) → lowest_of ns ≡ Some m → Stands k ns → m ≤ k
lowest_below [] m k is stands = absurd stands
lowest_below (n ∷ ns) m k is stands =
    from (lowest_of ns) (λ q later there. lowest_below ns q k later there)
    (λ none there. lowest_none ns k none there) is stands
  where
    from : (o : Option ℕ) → ((q : ℕ) → o ≡ Some q → Stands k ns → q ≤ k)
        → (o ≡ None → Stands k ns → ⊥) → lower_of n o ≡ Some m → Stands k (n ∷ ns) → m ≤ k
    from None later none is (inl same) = let e : n ≡ m = same_Some n m is in omega arith
    from None later none is (inr there) = absurd (none refl there)
    from (Some q) later none is (inl same) =
        let e : min n q ≡ m = same_Some (min n q) m is in omega arith
    from (Some q) later none is (inr there) =
        let e : min n q ≡ m = same_Some (min n q) m is in
        let below : q ≤ k = later q refl there in
        omega arith

-- it is the lowest of which something holds, if this holds just of the members
pub lowest_is : (P : ℕ → Type 0) (ns : List ℕ) (m : ℕ) → ((k : ℕ) → Stands k ns → P k)
    → ((k : ℕ) → P k → Stands k ns) → lowest_of ns ≡ Some m → IsLowest P m
lowest_is P ns m sound complete is = record {
  holds = sound m (lowest_stands ns m is);
  lowest = λ k here. lowest_below ns m k is (complete k here);
}
