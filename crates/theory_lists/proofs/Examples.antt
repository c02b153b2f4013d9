-- Lists that the definitions accept, and lists that they refuse.
use Rattle.std.proofs.Common.{◌≡◌, refl, inl, inr, true, false, ℕ, zero, suc, ◌<◌, [], ◌∷◌, arith}
use Rattle.std.proofs.Common.{sym}
use Rattle.std.proofs.lemmas.Bool.{false≢true}
use Rattle.std.specs.Prelude.{nat_lt}
use Rattle.theory_lists.specs.Members.{Stands, AllOfTwo, AreOnce}
use Rattle.theory_lists.specs.OneOf.{ExactlyOne, NoneOf}
use Rattle.theory_lists.specs.Parted.{IsPartedAt}
use Rattle.theory_lists.specs.Parity.{is_odd_number}

-- 5 stands in the list 4, 5
five_stands : Stands {X = ℕ} 5 (4 ∷ 5 ∷ [])
five_stands = inr (inl refl)

-- and does not stand in the list 4
five_is_not_there : Stands {X = ℕ} 5 (4 ∷ []) → ⊥
five_is_not_there (inl same) = absurd (omega arith)
five_is_not_there (inr none) = none

-- 2, 4, 7 rise
they_rise : AllOfTwo {X = ℕ} (λ m n. m < n) (2 ∷ 4 ∷ 7 ∷ [])
they_rise = ((omega arith, (omega arith, tt)), ((omega arith, tt), (tt, tt)))

-- 4 is there twice
four_is_twice : AreOnce {X = ℕ} (4 ∷ 2 ∷ 4 ∷ []) → ⊥
four_is_twice once = once.0.1.0 refl

-- one of 2, 4 and 7 is below 3, two are below 5, none is below 2
one_is_below : ExactlyOne {X = ℕ} (λ n. nat_lt n 3) (2 ∷ 4 ∷ 7 ∷ [])
one_is_below = refl

two_are_below : ExactlyOne {X = ℕ} (λ n. nat_lt n 5) (2 ∷ 4 ∷ 7 ∷ []) → ⊥
two_are_below one = cc

none_is_below : NoneOf {X = ℕ} (λ n. nat_lt n 2) (2 ∷ 4 ∷ 7 ∷ [])
none_is_below = refl

-- of 2, 4 and 7 an odd number is below 3, an even number below 5
odd_number : is_odd_number {X = ℕ} (λ n. nat_lt n 3) (2 ∷ 4 ∷ 7 ∷ []) ≡ true
odd_number = refl

even_number : is_odd_number {X = ℕ} (λ n. nat_lt n 5) (2 ∷ 4 ∷ 7 ∷ []) ≡ false
even_number = refl

-- of 2, 4 and 7 the first one is below 3 and the others are not, but not the first two
first_is_below : IsPartedAt {X = ℕ} (λ n. nat_lt n 3) 1 (2 ∷ 4 ∷ 7 ∷ [])
first_is_below = record { first = (refl, tt); rest = (refl, (refl, tt)) }

second_is_not : IsPartedAt {X = ℕ} (λ n. nat_lt n 3) 2 (2 ∷ 4 ∷ 7 ∷ []) → ⊥
second_is_not part = false≢true part.first.1.0

-- nowhere is 2, 7, 1 parted so
not_parted : (n : ℕ) → IsPartedAt {X = ℕ} (λ k. nat_lt k 3) n (2 ∷ 7 ∷ 1 ∷ []) → ⊥
not_parted zero part = false≢true (sym part.rest.0)
not_parted (suc zero) part = false≢true (sym part.rest.1.0)
not_parted (suc (suc n)) part = false≢true part.first.1.0
