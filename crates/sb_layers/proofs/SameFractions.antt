-- Two fractions of one value have the same lowest terms.

use Rattle.std.proofs.Common.{◌≡◌, refl, sym, ap, ap₂, ◌∙◌, arith, ℤ, pos, ◌*ℤ◌, ◌<ℤ◌}
use Rattle.std.proofs.lemmas.Int.{ints}
use Rattle.theory_numbers.specs.Fractions.{Ratio, reduced}
use Rattle.theory_numbers.proofs.Shapes.{var, times, equal}
use Rattle.theory_numbers.proofs.Products.{positive_product, unscale_equal}
use Rattle.theory_numbers.proofs.Fractions.Reduced.{reduced_unique}
use Rattle.theory_numbers.proofs.Fractions.LowestTerms.{reduced_is_same, reduced_is_lowest, lowest_is_reduced}

not_zero : (k : ℤ) → pos 0 <ℤ k → k ≡ pos 0 → ⊥
not_zero k some same = omega (arith, ints)

same_ratio : (r s : Ratio) → (r.num ≡ s.num) × (r.den ≡ s.den) → r ≡ s
same_ratio r s is =
    ap₂ (λ n d. record { num = n; den = d }) is.0 is.1

-- a/b and c/d are one number
pub reduced_alike : (a b c d : ℤ) → pos 0 <ℤ b → pos 0 <ℤ d → a *ℤ d ≡ c *ℤ b
    → reduced a b ≡ reduced c d
reduced_alike a b c d b_in d_in same =
    same_ratio r s
    (reduced_unique r.num r.den s.num s.den (lowest_is_reduced r (reduced_is_lowest a b b_in))
    (lowest_is_reduced s (reduced_is_lowest c d d_in))
    (unscale_equal (b *ℤ d) (r.num *ℤ s.den) (s.num *ℤ r.den)
    (not_zero (b *ℤ d) (positive_product b d b_in d_in)) crossed))
  where
    r : Ratio
    r = reduced a b

    s : Ratio
    s = reduced c d

    crossed : (b *ℤ d) *ℤ (r.num *ℤ s.den) ≡ (b *ℤ d) *ℤ (s.num *ℤ r.den)
    crossed =
        equal (times (times (var b) (var d)) (times (var r.num) (var s.den)))
        (times (times (var r.num) (var b)) (times (var s.den) (var d))) (omega arith)
        ∙ ap (λ t. t *ℤ (s.den *ℤ d)) (reduced_is_same a b b_in)
        ∙ equal (times (times (var a) (var r.den)) (times (var s.den) (var d)))
        (times (times (var a) (var d)) (times (var r.den) (var s.den))) (omega arith)
        ∙ ap (λ t. t *ℤ (r.den *ℤ s.den)) same
        ∙ equal (times (times (var c) (var b)) (times (var r.den) (var s.den)))
        (times (times (var c) (var s.den)) (times (var b) (var r.den))) (omega arith)
        ∙ ap (λ t. t *ℤ (b *ℤ r.den)) (sym (reduced_is_same c d d_in))
        ∙ equal (times (times (var s.num) (var d)) (times (var b) (var r.den)))
        (times (times (var b) (var d)) (times (var s.num) (var r.den))) (omega arith)
