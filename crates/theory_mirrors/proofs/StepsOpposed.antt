-- Two vectors without common divisors on one line that point opposite ways are opposite.
use Rattle.std.proofs.Common.{◌≡◌, sym, ap, ◌∙◌, arith, subst, ◌⊎◌, inl, inr, ℕ, suc, ℤ, pos, negsuc}
use Rattle.std.proofs.Common.{neg_ℤ, ◌+ℤ◌, ◌*ℤ◌, ◌<ℤ◌, true, unsigned_abs}
use Rattle.std.proofs.lemmas.Int.{ints, unsigned_abs-mul}
use Rattle.std.proofs.lemmas.Bool.{eqb-true}
use Rattle.std.specs.Int.{◌∣◌}
use Rattle.theory_numbers.specs.Divisors.{are_coprime, greatest_divisor}
use Rattle.theory_numbers.proofs.Fractions.GreatestDivisor.{greatest_divisor_is}
use Rattle.theory_numbers.proofs.Products.{weak_square, zero_product}
use Rattle.theory_numbers.proofs.Fractions.Reduced.{Coprime, same_pair}
use Rattle.theory_numbers.proofs.Ring.{mul_comm, neg-mul, zero-mul}

coprime_from : (a b : ℕ) → are_coprime a b ≡ true → Coprime a b
coprime_from a b coprime d of_a of_b =
    subst (λ g. d ∣ g) (eqb-true (greatest_divisor a b) 1 coprime)
    ((greatest_divisor_is a b).2 d of_a of_b)

abs_cases : (a b : ℤ) → unsigned_abs a ≡ unsigned_abs b → (a ≡ b) ⊎ (a ≡ neg_ℤ b)
abs_cases (pos a) (pos b) same = inl (ap pos same)
abs_cases (pos a) (negsuc b) same = inr (ap pos same)
abs_cases (negsuc a) (pos b) same = inr (let e : suc a ≡ b = same in omega (arith, ints, e))
abs_cases (negsuc a) (negsuc b) same = inl (let e : suc a ≡ suc b = same in omega (arith, ints, e))

-- two such vectors are opposite
pub opposed_steps : (a b c d : ℤ) → are_coprime (unsigned_abs a) (unsigned_abs b) ≡ true
    → are_coprime (unsigned_abs c) (unsigned_abs d) ≡ true → a *ℤ d ≡ b *ℤ c
    → ((a *ℤ c) +ℤ (b *ℤ d)) <ℤ pos 0 → (a ≡ neg_ℤ c) × (b ≡ neg_ℤ d)
opposed_steps a b c d first second line less =
    by (abs_cases a c sizes.0) (abs_cases b d sizes.1)
  where
    sizes : (unsigned_abs a ≡ unsigned_abs c) × (unsigned_abs b ≡ unsigned_abs d)
    sizes =
        same_pair (unsigned_abs a) (unsigned_abs b) (unsigned_abs c) (unsigned_abs d)
        (coprime_from (unsigned_abs a) (unsigned_abs b) first)
        (coprime_from (unsigned_abs c) (unsigned_abs d) second)
        (sym (unsigned_abs-mul a d) ∙ ap unsigned_abs line ∙ unsigned_abs-mul b c)

    no_square : (x y : ℤ) → x ≡ y → a *ℤ c ≡ y *ℤ y → b *ℤ d ≡ pos 0 → ⊥
    no_square x y same one none = let weak = weak_square y in omega (arith, ints, less)

    no_other : (y : ℤ) → a *ℤ c ≡ pos 0 → b *ℤ d ≡ y *ℤ y → ⊥
    no_other y none one = let weak = weak_square y in omega (arith, ints, less)

    zero_left : (x y : ℤ) → x ≡ pos 0 → x *ℤ y ≡ pos 0
    zero_left x y none = ap (λ k. k *ℤ y) none ∙ zero-mul y

    crossed : a ≡ c → b ≡ neg_ℤ d → (a ≡ neg_ℤ c) × (b ≡ neg_ℤ d)
    crossed same turned =
        from
        (zero_product c d
        (let one : c *ℤ d ≡ neg_ℤ d *ℤ c =
        sym (ap (λ k. k *ℤ d) same) ∙ line ∙ ap (λ k. k *ℤ c) turned in
        let other = neg-mul d c in
        let turn = mul_comm d c in
        omega (arith, ints)))
      where
        from : (c ≡ pos 0) ⊎ (d ≡ pos 0) → (a ≡ neg_ℤ c) × (b ≡ neg_ℤ d)
        from (inl none) = (omega (arith, ints, same, none), turned)
        from (inr none) =
            absurd
            (no_square a c same (ap (λ k. k *ℤ c) same)
            (mul_comm b d ∙ zero_left d b none))

    crossed_too : a ≡ neg_ℤ c → b ≡ d → (a ≡ neg_ℤ c) × (b ≡ neg_ℤ d)
    crossed_too turned same =
        from
        (zero_product d c
        (let one : neg_ℤ c *ℤ d ≡ d *ℤ c =
        sym (ap (λ k. k *ℤ d) turned) ∙ line ∙ ap (λ k. k *ℤ c) same in
        let other = neg-mul c d in
        let turn = mul_comm c d in
        omega (arith, ints)))
      where
        from : (d ≡ pos 0) ⊎ (c ≡ pos 0) → (a ≡ neg_ℤ c) × (b ≡ neg_ℤ d)
        from (inl none) = (turned, omega (arith, ints, same, none))
        from (inr none) =
            absurd (no_other d (mul_comm a c ∙ zero_left c a none) (ap (λ k. k *ℤ d) same))

    by : (a ≡ c) ⊎ (a ≡ neg_ℤ c) → (b ≡ d) ⊎ (b ≡ neg_ℤ d) → (a ≡ neg_ℤ c) × (b ≡ neg_ℤ d)
    by (inl same) (inl also) =
        let one = weak_square c in
        let other = weak_square d in
        let first_is = ap (λ k. k *ℤ c) same in
        let second_is = ap (λ k. k *ℤ d) also in
        absurd (omega (arith, ints, less))
    by (inl same) (inr turned) = crossed same turned
    by (inr turned) (inl same) = crossed_too turned same
    by (inr turned) (inr also) = (turned, also)
