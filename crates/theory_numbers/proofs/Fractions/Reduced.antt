-- Reduced fractions that are equal as numbers are equal as data.
use Rattle.std.proofs.Common.{◌≡◌, ℕ, zero, suc, ◌+◌, ◌*◌, ◌-◌, ◌<◌, ◌≤◌, ⊎_elim, sym, ap, ◌∙◌}
use Rattle.std.proofs.Common.{subst, subst₂, arith, ℤ, pos, ◌<ℤ◌, ◌*ℤ◌, ◌-ℤ◌, unsigned_abs}
use Rattle.std.proofs.Common.{mul-le-mul_left, mul-le-mul_right}
use Rattle.std.proofs.lemmas.Int.{ints, unsigned_abs-mul}
use Rattle.std.proofs.lemmas.Bool.{cases_lt}
use Rattle.std.proofs.Math.Nat.{dvd_refl, dvd-zero, dvd-add, eq-one_of_dvd-one, one-dvd}
use Rattle.std.specs.Int.{◌∣◌}
use Rattle.theory_numbers.specs.Arrows.{Arrow}
use Rattle.theory_numbers.specs.Rationals.{IsSame}
use Rattle.theory_numbers.specs.Reduced.{IsReduced}
use Rattle.theory_numbers.proofs.Shapes.{cross_eq}
use Rattle.theory_numbers.proofs.Ring.{mul_comm, mul-one}
use Rattle.theory_numbers.proofs.Vectors.Arrows.{same_arrow}
use Rattle.theory_numbers.proofs.Products.{unscale_equal}

-- what divides both divides 1
abbrev pub Coprime : ℕ → ℕ → Type 0
Coprime a b = (d : ℕ) → d ∣ a → d ∣ b → d ∣ 1

one_beside_zero : (b : ℕ) → Coprime 0 b → b ≡ 1
one_beside_zero b coprime = eq-one_of_dvd-one (coprime b (dvd-zero b) (dvd_refl b))

coprime-swap : (a b : ℕ) → Coprime a b → Coprime b a
coprime-swap a b coprime d ab cd = coprime d cd ab

-- a common divisor of a and k divides a + k
coprime-less : (a k : ℕ) → Coprime a (a + k) → Coprime a k
coprime-less a k coprime d ab cd = coprime d ab (dvd-add d ab cd)

-- the first number is 0
zero_case : (b c d : ℕ) → Coprime 0 b → Coprime c d → 0 * d ≡ b * c → (0 ≡ c) × (b ≡ d)
zero_case b c d ab cd equation =
    let one : b ≡ 1 = one_beside_zero b ab in
    let none : 0 ≡ c = zero_of b one equation in
    let one_d : d ≡ 1 = one_beside_zero d (subst (λ n. Coprime n d) (sym none) cd) in
    (none, one ∙ sym one_d)
  where
    zero_of : (b : ℕ) → b ≡ 1 → 0 * d ≡ b * c → 0 ≡ c
    zero_of b one equation =
        let ab : 0 * d ≡ 1 * c = subst (λ n. 0 * d ≡ n * c) one equation in omega arith

-- in two pairs of one proportion the same number is the less
less_in_both : (a b c d : ℕ) → 0 < a → a ≤ b → a * d ≡ b * c → c ≤ d
less_in_both a b c d above low equation =
    ⊎_elim (λ more. absurd (clash more)) (λ less. less) (cases_lt d c)
  where
    clash : d < c → ⊥
    clash more =
        let one : a * (d + 1) ≤ a * c = mul-le-mul_left a (omega arith) in
        let other : a * c ≤ b * c = mul-le-mul_right c low in
        omega arith

Settled : ℕ → Type 0
Settled fuel =
    (a b c d : ℕ) → a + b ≤ fuel → Coprime a b → Coprime c d → a * d ≡ b * c
    → (a ≡ c) × (b ≡ d)

-- the lesser number is taken from the greater, in both pairs
one_step : (fuel : ℕ) → Settled fuel → (a b c d : ℕ) → 0 < a → a ≤ b → a + b ≤ suc fuel
    → Coprime a b → Coprime c d → a * d ≡ b * c → (a ≡ c) × (b ≡ d)
unfolding Settled
one_step fuel settled a b c d above low room ab cd equation =
    let low_c : c ≤ d = less_in_both a b c d above low equation in
    let split : b ≡ a + (b - a) = omega arith in
    let split_c : d ≡ c + (d - c) = omega arith in
    let rest =
    settled a (b - a) c (d - c) (omega arith)
    (coprime-less a (b - a) (subst (λ n. Coprime a n) split ab))
    (coprime-less c (d - c) (subst (λ n. Coprime c n) split_c cd))
    (proportion (b - a) (d - c) split split_c)
    in
    let second : b - a ≡ d - c = rest.1 in
    let first : a ≡ c = rest.0 in
    (first, omega arith)
  where
    proportion : (k l : ℕ) → b ≡ a + k → d ≡ c + l → a * l ≡ k * c
    proportion k l split split_c =
        let spread : a * (c + l) ≡ (a + k) * c =
        subst₂ (λ m n. a * m ≡ n * c) split_c split equation
        in omega arith

by_steps : (fuel : ℕ) → Settled fuel
unfolding Settled
by_steps fuel zero b c d room ab cd equation = zero_case b c d ab cd equation
by_steps fuel (suc a) zero c d room ab cd equation =
    let rest =
    zero_case (suc a) d c (coprime-swap (suc a) 0 ab) (coprime-swap c d cd) (sym equation)
    in
    (rest.1, rest.0)
by_steps zero (suc a) (suc b) c d room ab cd equation = absurd (omega arith)
by_steps (suc fuel) (suc a) (suc b) c d room ab cd equation =
    ⊎_elim
    (λ less.
    one_step fuel (by_steps fuel) (suc a) (suc b) c d (omega arith) (omega arith) room ab cd
    equation)
    (λ more.
    let rest =
    one_step fuel (by_steps fuel) (suc b) (suc a) d c (omega arith) more (omega arith)
    (coprime-swap (suc a) (suc b) ab) (coprime-swap c d cd) (sym equation)
    in (rest.1, rest.0))
    (cases_lt (suc a) (suc b))

-- two pairs without a common divisor that are in one proportion are equal
pub same_pair : (a b c d : ℕ) → Coprime a b → Coprime c d → a * d ≡ b * c → (a ≡ c) × (b ≡ d)
unfolding Settled
same_pair a b c d ab cd equation = by_steps (a + b) a b c d (omega arith) ab cd equation

-- ---- fractions

-- the same proportion holds of the sizes
sizes : (a b c d : ℤ) → a *ℤ d ≡ c *ℤ b
    → unsigned_abs a * unsigned_abs d ≡ unsigned_abs b * unsigned_abs c
sizes a b c d equation =
    let one = unsigned_abs-mul a d in
    let other = unsigned_abs-mul c b in
    let both = ap unsigned_abs equation in
    omega arith

-- a number above 0 is its size
size_is : (a b : ℤ) → pos 0 <ℤ a → pos 0 <ℤ b → unsigned_abs a ≡ unsigned_abs b → a ≡ b
size_is a b above above' same = omega (arith, ints)

-- reduced fractions that are equal as numbers are equal as data
pub reduced_unique : (num den num' den' : ℤ) → IsReduced num den → IsReduced num' den'
    → num *ℤ den' ≡ num' *ℤ den → (num ≡ num') × (den ≡ den')
reduced_unique num den num' den' reduced reduced' equation =
    let pair =
    same_pair (unsigned_abs num) (unsigned_abs den) (unsigned_abs num') (unsigned_abs den')
    reduced.no_divisor.2 reduced'.no_divisor.2 (sizes num den num' den' equation)
    in
    let same : den ≡ den' = size_is den den' reduced.positive reduced'.positive pair.1 in
    (top same, same)
  where
    top : den ≡ den' → num ≡ num'
    top same =
        let positive = reduced.positive in
        unscale_equal den num num' (λ zero. omega (arith, ints))
        (mul_comm den num ∙ ap (λ n. num *ℤ n) same ∙ equation ∙ mul_comm num' den)

-- a whole number over 1 is reduced
pub whole_is_reduced : (n : ℤ) → IsReduced n (pos 1)
whole_is_reduced n =
    record {
      positive = omega (arith, ints);
      no_divisor = (one-dvd (unsigned_abs n), dvd_refl 1, λ d reduced reduced'. reduced');
    }

-- a reduced fraction that is a whole number n is n/1
pub reduced_whole : (num den n : ℤ) → IsReduced num den → num ≡ n *ℤ den
    → (num ≡ n) × (den ≡ pos 1)
reduced_whole num den n reduced equation =
    reduced_unique num den n (pos 1) reduced (whole_is_reduced n) (mul-one num ∙ equation)

-- so with fractions: of one value there is one
pub fraction_unique : (r s : Arrow) → IsReduced r.y r.x → IsReduced s.y s.x → IsSame r s → r ≡ s
fraction_unique r s r_in s_in same =
    let written : (r.x *ℤ s.y) -ℤ (r.y *ℤ s.x) ≡ pos 0 = sym (cross_eq r s) ∙ same in
    let turned = mul_comm s.y r.x in
    let pair = reduced_unique r.y r.x s.y s.x r_in s_in (omega (arith, ints)) in
    same_arrow r s pair.1 pair.0
