-- The rounded thickness by a square root that is rounded down.

use Rattle.std.proofs.Common.{◌≡◌, refl, sym, ap, ◌∙◌, arith, subst, ℕ, zero, suc, ◌+◌, ◌*◌, ◌/◌, ◌<◌, ◌≤◌, ◌^◌}
use Rattle.std.proofs.Common.{ℤ, pos, negsuc, ◌-ℤ◌, ◌*ℤ◌, ◌<ℤ◌, ◌≤ℤ◌, unsigned_abs, IsTrue, true, false, not, Bool, ◌⊎◌, inl, inr}
use Rattle.std.proofs.lemmas.Int.{ints}
use Rattle.std.proofs.lemmas.Nat.{mul-le}
use Rattle.std.proofs.Math.Nat.{le-div_iff_mul-le, mul-div-le}
use Rattle.std.proofs.lemmas.Bool.{and_from, cases_lt}
use Rattle.theory_numbers.specs.Rationals.{rational}
use Rattle.theory_numbers.proofs.Signs.{test_at_most, test_not_at_most}
use Rattle.sb_model.specs.Walks.{is_reached_by, is_rounded}
use Rattle.theory_sight.specs.Bands.{rounded_thickness}
use Rattle.theory_sight.proofs.Crossings.Thickness.{thickness_is}

-- a test of a number of micrometres, in natural numbers
reached_from : (s : ℕ) (n l : ℕ) (k : ℤ) → pos (l * l) ≡ k *ℤ k → s * n ≤ 4000000 * (l * l)
    → ((pos s *ℤ pos n) *ℤ (pos 1 *ℤ pos 1)) ≤ℤ (pos 4000000 *ℤ (k *ℤ k))
reached_from s n l k same less =
    subst (λ z. ((pos s *ℤ pos n) *ℤ (pos 1 *ℤ pos 1)) ≤ℤ (pos 4000000 *ℤ z)) same
    (raise (s * n) (4000000 * (l * l)) less)
  where
    raise : (a b : ℕ) → a ≤ b → (pos a *ℤ (pos 1 *ℤ pos 1)) ≤ℤ pos b
    raise a b less = omega (arith, ints)

not_reached_from : (s : ℕ) (n l : ℕ) (k : ℤ) → pos (l * l) ≡ k *ℤ k → 4000000 * (l * l) < s * n
    → (pos 4000000 *ℤ (k *ℤ k)) <ℤ ((pos s *ℤ pos n) *ℤ (pos 1 *ℤ pos 1))
not_reached_from s n l k same less =
    subst (λ z. (pos 4000000 *ℤ z) <ℤ ((pos s *ℤ pos n) *ℤ (pos 1 *ℤ pos 1))) same
    (raise (4000000 * (l * l)) (s * n) less)
  where
    raise : (a b : ℕ) → a < b → pos a <ℤ (pos b *ℤ (pos 1 *ℤ pos 1))
    raise a b less = omega (arith, ints)

square-abs : (k : ℤ) → pos (unsigned_abs k * unsigned_abs k) ≡ k *ℤ k
square-abs (pos n) = refl
square-abs (negsuc n) = refl

-- half of one more than the root, rounded down
pub root_rounds : (unit k : ℤ) (q r : ℕ) → pos 0 <ℤ unit
    → q ≡ (4000000 * (unsigned_abs k * unsigned_abs k)) / unsigned_abs unit → r * r ≤ q
    → q < (r + 1) * (r + 1) → (r + 1) / 2 ≡ rounded_thickness unit k
root_rounds (negsuc n) k q r unit_in q_is low high = absurd (omega (arith, ints, unit_in))
root_rounds (pos n) k q r unit_in q_is low high =
    (thickness_is (pos n) k unit_in m).0
    (and_from (is_reached_by m (pos n) (rational k (pos 1))) _ (reached m refl)
    (ap not (test_not_at_most _ _
    (not_reached_from ((2 * m + 1) * (2 * m + 1)) n l k (square-abs k) next))))
  where
    m : ℕ
    m = (r + 1) / 2

    l : ℕ
    l = unsigned_abs k

    n_in : 0 < n
    n_in = omega (arith, ints, unit_in)

    twice : 2 * m ≤ r + 1
    twice = mul-div-le (r + 1) 2

    not_more : r < 2 * m + 1
    not_more = by (cases_lt r (2 * m + 1))
      where
        by : (r < 2 * m + 1) ⊎ (2 * m + 1 ≤ r) → r < 2 * m + 1
        by (inl less) = less
        by (inr more) =
            let up = (le-div_iff_mul-le {k = 2} {x = suc m} {y = r + 1} (omega arith)).1 (omega (arith, more)) in
            absurd (omega (arith, up))

    next : 4000000 * (l * l) < ((2 * m + 1) * (2 * m + 1)) * n
    next = by (cases_lt (4000000 * (l * l)) (((2 * m + 1) * (2 * m + 1)) * n))
      where
        wide : (r + 1) * (r + 1) ≤ (2 * m + 1) * (2 * m + 1)
        wide = mul-le (r + 1) (r + 1) (2 * m + 1) (2 * m + 1) (omega (arith, not_more)) (omega (arith, not_more))

        by : (4000000 * (l * l) < ((2 * m + 1) * (2 * m + 1)) * n)
            ⊎ (((2 * m + 1) * (2 * m + 1)) * n ≤ 4000000 * (l * l))
            → 4000000 * (l * l) < ((2 * m + 1) * (2 * m + 1)) * n
        by (inl less) = less
        by (inr more) =
            let up = (le-div_iff_mul-le {k = n} {x = (2 * m + 1) * (2 * m + 1)} {y = 4000000 * (l * l)} n_in).1 more in
            absurd (clash ((2 * m + 1) * (2 * m + 1)) ((r + 1) * (r + 1))
            (subst (λ z. (2 * m + 1) * (2 * m + 1) ≤ z) (sym q_is) up) high wide)
          where
            clash : (a b : ℕ) → a ≤ q → q < b → b ≤ a → ⊥
            clash a b one two three = omega arith

    reached : (a : ℕ) → a ≡ m → is_reached_by a (pos n) (rational k (pos 1)) ≡ true
    reached zero same = refl
    reached (suc a) same =
        test_at_most _ _
        (reached_from ((2 * a + 1) * (2 * a + 1)) n l k (square-abs k)
        ((le-div_iff_mul-le {k = n} {x = (2 * a + 1) * (2 * a + 1)} {y = 4000000 * (l * l)} n_in).0
        (subst (λ z. (2 * a + 1) * (2 * a + 1) ≤ z) q_is
        (through ((2 * a + 1) * (2 * a + 1)) (r * r)
        (mul-le (2 * a + 1) (2 * a + 1) r r (small a same twice) (small a same twice)) low))))
      where
        small : (a : ℕ) → suc a ≡ m → 2 * m ≤ r + 1 → 2 * a + 1 ≤ r
        small a same less = omega (arith, same, less)

        through : (a b : ℕ) → a ≤ b → b ≤ q → a ≤ q
        through a b one two = omega arith

-- the quotient of the scaled square and the unit
pub quotient_is : (square unit : ℕ) (length k n : ℤ)
    → square ≡ 4000000 * (unsigned_abs length * unsigned_abs length) → length ≡ k
    → unit ≡ unsigned_abs n
    → square / unit ≡ (4000000 * (unsigned_abs k * unsigned_abs k)) / unsigned_abs n
quotient_is square unit length k n square_is length_is unit_is =
    ap (λ a. a / unit) square_is
    ∙ ap (λ a. (4000000 * (unsigned_abs a * unsigned_abs a)) / unit) length_is
    ∙ ap (λ a. (4000000 * (unsigned_abs k * unsigned_abs k)) / a) unit_is
