-- The rounded thickness is the one number of micrometres to which a length is rounded.
use Rattle.std.proofs.Common.{◌≡◌, refl, sym, ap, ◌∙◌, ⊎_elim, arith, subst, ℕ, zero, suc, ◌+◌, ◌*◌}
use Rattle.std.proofs.Common.{◌<◌, ◌≤◌, ◌↔◌, Bool, true, false, not, cond, IsTrue}
use Rattle.std.proofs.Common.{ℤ, pos, negsuc, ◌-ℤ◌, ◌*ℤ◌, ◌<ℤ◌, ◌≤ℤ◌, unsigned_abs}
use Rattle.std.proofs.lemmas.Int.{ints}
use Rattle.std.proofs.lemmas.Nat.{mul-le}
use Rattle.std.proofs.Math.Arith.{le-zero}
use Rattle.std.proofs.lemmas.Bool.{and_parts, and_from, false≢true, cases_lt, not-true}
use Rattle.theory_numbers.specs.Arrows.{Arrow}
use Rattle.theory_numbers.specs.Rationals.{rational}
use Rattle.theory_numbers.proofs.Shapes.{var, num, minus, times, equal}
use Rattle.theory_numbers.proofs.Signs.{at_most_from, test_at_most, test_not_at_most}
use Rattle.theory_numbers.proofs.Products.{weak_product, weak_square}
use Rattle.sb_model.specs.Walks.{is_reached_by, is_rounded}
use Rattle.theory_sight.specs.Bands.{greatest_up_to, rounded_thickness}

-- ---- the greatest number that passes

-- what passes at a number passes at all below it
abbrev pub IsFalling : (ℕ → Bool) → Type 0
IsFalling test = (n : ℕ) → test (suc n) ≡ true → test n ≡ true

falls_from : (test : ℕ → Bool) → IsFalling test → (l n : ℕ) → n ≤ l → test l ≡ true
    → test n ≡ true
falls_from test falling zero n low passes = subst (λ k. test k ≡ true) (sym (le-zero low)) passes
falls_from test falling (suc l) n low passes =
    ⊎_elim (λ less. falls_from test falling l n (omega arith) (falling l passes))
    (λ more. let same : suc l ≡ n = omega arith in subst (λ k. test k ≡ true) same passes)
    (cases_lt n (suc l))

-- the next number does not pass
greatest_passes : (test : ℕ → Bool) → test zero ≡ true → (n : ℕ)
    → test (greatest_up_to test n) ≡ true
greatest_passes test first zero = first
greatest_passes test first (suc n) = by (test (suc n)) refl (greatest_passes test first n)
  where
    by : (b : Bool) → test (suc n) ≡ b → test (greatest_up_to test n) ≡ true
        → test (cond b (suc n) (greatest_up_to test n)) ≡ true
    by true passes later = passes
    by false fails later = later

next_fails : (test : ℕ → Bool) → (n : ℕ) → test (suc n) ≡ false
    → test (suc (greatest_up_to test n)) ≡ false
next_fails test zero last = last
next_fails test (suc n) last = by (test (suc n)) refl (next_fails test n)
  where
    by : (b : Bool) → test (suc n) ≡ b
        → (test (suc n) ≡ false → test (suc (greatest_up_to test n)) ≡ false)
        → test (suc (cond b (suc n) (greatest_up_to test n))) ≡ false
    by true passes later = last
    by false fails later = later fails

-- a test that falls turns at one number
turns_once : (test : ℕ → Bool) → IsFalling test → (m n : ℕ) → test m ≡ true
    → test (suc m) ≡ false → test n ≡ true → test (suc n) ≡ false → m ≡ n
turns_once test falling m n m_passes m_ends n_passes n_ends =
    ⊎_elim (λ less. absurd (clash m n less m_ends n_passes))
    (λ more.
    ⊎_elim (λ less. absurd (clash n m less n_ends m_passes)) (λ low. omega arith) (cases_lt n m))
    (cases_lt m n)
  where
    clash : (k l : ℕ) → k < l → test (suc k) ≡ false → test l ≡ true → ⊥
    clash k l less ends passes =
        false≢true (sym ends ∙ falls_from test falling l (suc k) (omega arith) passes)

-- ---- the thickness

-- the lesser of two factors stays below
lesser_below : (a b unit xx t : ℤ) → pos 0 ≤ℤ unit → pos 0 ≤ℤ xx → a ≤ℤ b
    → ((b *ℤ unit) *ℤ xx) ≤ℤ t → ((a *ℤ unit) *ℤ xx) ≤ℤ t
lesser_below a b unit xx t unit_in xx_in less at =
    let gap = weak_product (b -ℤ a) (unit *ℤ xx) (omega (arith, ints))
    (weak_product unit xx unit_in xx_in) in
    let parts =
    equal (times (minus (var b) (var a)) (times (var unit) (var xx)))
    (minus (times (times (var b) (var unit)) (var xx)) (times (times (var a) (var unit)) (var xx)))
    (omega arith)
    in
    omega (arith, ints)

square_grows : (m : ℕ) → (2 * m + 1) * (2 * m + 1) ≤ (2 * (suc m) + 1) * (2 * (suc m) + 1)
square_grows m = mul-le (2 * m + 1) (2 * m + 1) (2 * (suc m) + 1) (2 * (suc m) + 1)
    (omega arith) (omega arith)

-- a length that reaches a number reaches all below it
pub reached_falls : (unit : ℤ) (k : Arrow) → pos 0 ≤ℤ unit → IsFalling (λ m. is_reached_by m unit k)
reached_falls unit k unit_in zero reached = refl
reached_falls unit k unit_in (suc m) reached =
    test_at_most _ _
    (lesser_below (pos ((2 * m + 1) * (2 * m + 1)))
    (pos ((2 * (suc m) + 1) * (2 * (suc m) + 1))) unit (k.x *ℤ k.x)
    (pos 4000000 *ℤ (k.y *ℤ k.y)) unit_in (weak_square k.x)
    (at_most_of (square_grows m)) (at_most_from _ _ reached))
  where
    at_most_of : {a b : ℕ} → a ≤ b → pos a ≤ℤ pos b
    at_most_of less = omega (arith, ints)

square-abs : (k : ℤ) → pos (unsigned_abs k * unsigned_abs k) ≡ k *ℤ k
square-abs (pos n) = refl
square-abs (negsuc n) = refl

-- no length reaches more than a thousand for each millimetre
not_reached : (unit k : ℤ) → pos 0 <ℤ unit
    → is_reached_by (suc (1000 * unsigned_abs k)) unit (rational k (pos 1)) ≡ false
not_reached unit k unit_in = test_not_at_most _ _ (beyond (unsigned_abs k) (square-abs k))
  where
    more_times : (t x : ℤ) → pos 0 ≤ℤ x → t <ℤ x → t <ℤ ((x *ℤ unit) *ℤ (pos 1 *ℤ pos 1))
    more_times t x x_in less =
        let gap = weak_product x (unit -ℤ pos 1) x_in (omega (arith, ints)) in
        let parts =
        equal (times (var x) (minus (var unit) (num 1)))
        (minus (times (times (var x) (var unit)) (num 1)) (var x)) (omega arith)
        in
        omega (arith, ints)

    grown : (a q : ℕ) → q ≡ a * a
        → (2 * (1000 * a) + 1) * (2 * (1000 * a) + 1) ≡ 4000000 * q + 4000 * a + 1
    grown a q is =
        subst
        (λ n. (2 * (1000 * a) + 1) * (2 * (1000 * a) + 1) ≡ 4000000 * n + 4000 * a + 1)
        (sym is) (omega arith)

    beyond : (a : ℕ) → pos (a * a) ≡ k *ℤ k
        → (pos 4000000 *ℤ (k *ℤ k))
        <ℤ ((pos ((2 * (1000 * a) + 1) * (2 * (1000 * a) + 1)) *ℤ unit) *ℤ (pos 1 *ℤ pos 1))
    beyond a is =
        let size = grown a (a * a) refl in
        let more : (pos 4000000 *ℤ (k *ℤ k)) <ℤ pos (4000000 * (a * a) + 4000 * a + 1) =
        rw (sym is) (omega (arith, ints)) in
        more_times (pos 4000000 *ℤ (k *ℤ k)) (pos ((2 * (1000 * a) + 1) * (2 * (1000 * a) + 1)))
        (omega (arith, ints)) (omega (arith, ints))

-- the rounded thickness of a length, and no other number
pub thickness_is : (unit k : ℤ) → pos 0 <ℤ unit → (m : ℕ)
    → IsTrue (is_rounded m unit (rational k (pos 1))) ↔ (m ≡ rounded_thickness unit k)
thickness_is unit k unit_in m = (to, from)
  where
    test : ℕ → Bool
    test n = is_reached_by n unit (rational k (pos 1))

    passes : test (rounded_thickness unit k) ≡ true
    passes = greatest_passes test refl (1000 * unsigned_abs k)

    ends : test (suc (rounded_thickness unit k)) ≡ false
    ends = next_fails test (1000 * unsigned_abs k) (not_reached unit k unit_in)

    to : IsTrue (is_rounded m unit (rational k (pos 1))) → m ≡ rounded_thickness unit k
    to rounded =
        let parts = and_parts (test m) (not (test (suc m))) rounded in
        turns_once test (reached_falls unit (rational k (pos 1)) (omega (arith, ints, unit_in))) m
        (rounded_thickness unit k) parts.0 (not-true (test (suc m)) parts.1) passes ends

    from : m ≡ rounded_thickness unit k → IsTrue (is_rounded m unit (rational k (pos 1)))
    from same =
        subst (λ n. IsTrue (is_rounded n unit (rational k (pos 1)))) (sym same)
        (and_from (test (rounded_thickness unit k)) (not (test (suc (rounded_thickness unit k))))
        passes (ap not ends))
