-- A number is rounded by its tenths: half a unit is five of them.
use Rattle.std.proofs.Common.{◌≡◌, refl, ℕ, zero, suc, ◌+◌, ◌*◌, ◌/◌, ◌%◌, ◌<◌, ◌≤◌, Bool, true, false, ap, arith, pos, ◌*ℤ◌, unsigned_abs, mul-le-mul_right, mod-lt, div-add-mod'}
use Rattle.std.proofs.Math.Nat.{div-eq_of_lt-le, div-eq_of_lt}
use Rattle.std.proofs.lemmas.Int.{ints}
use Rattle.theory_numbers.specs.Tests.{is_negative}
use Rattle.theory_numbers.proofs.Ring.{neg-mul}
use Rattle.theory_numbers.proofs.Signs.{test_not_less}
use Rattle.sb_fixed.specs.Decimals.{signed}
use Rattle.sb_fixed.specs.Rounding.{rounded}

-- n/d to the nearest whole number is its tenths, cut off, and five more, cut off again
pub nearest_by_tenths : (n d : ℕ) → 0 < d → (2 * n + d) / (2 * d) ≡ (10 * n / d + 5) / 10
nearest_by_tenths n d some =
    let q = 10 * n / d in
    let r = 10 * n % d in
    let k = (q + 5) / 10 in
    let s = (q + 5) % 10 in
    let tenths : q * d + r ≡ 10 * n = div-add-mod' (10 * n) d in
    let rest : r < d = mod-lt (10 * n) some in
    let units : k * 10 + s ≡ q + 5 = div-add-mod' (q + 5) 10 in
    let last : s ≤ 9 = omega (arith, mod-lt (q + 5) {m = 10} (omega arith)) in
    let spread : k * 10 * d + s * d ≡ q * d + 5 * d =
    omega (arith, ap (λ x. x * d) units) in
    let less : s * d ≤ 9 * d = mul-le-mul_right d last in
    div-eq_of_lt-le (2 * d) {m = 2 * n + d} (omega arith) (omega arith)

-- ---- signs

-- the size of a number with a sign
pub size_of_signed : (negative : Bool) (n : ℕ) → unsigned_abs (signed negative n) ≡ n
size_of_signed false n = refl
size_of_signed true zero = refl
size_of_signed true (suc n) = refl

-- with a factor
pub signed-times : (negative : Bool) (n t : ℕ) → signed negative n *ℤ pos t ≡ signed negative (n * t)
signed-times false n t = refl
signed-times true n t = neg-mul (pos n) (pos t)

-- less than half a unit is nothing
none_of_zero : (d : ℕ) → 0 < d → (2 * 0 + d) / (2 * d) ≡ 0
none_of_zero d some = div-eq_of_lt {n = 2 * 0 + d} {m = 2 * d} (omega arith)

-- a number without a sign is not below 0
pub not_negative : (n : ℕ) → is_negative (pos n) ≡ false
not_negative n = test_not_less (pos n) (pos 0) (omega (arith, ints))

-- a number with a sign is rounded by its size
pub rounded-signed : (negative : Bool) (n d : ℕ) → 0 < d
    → rounded (record { num = signed negative n; den = pos d })
    ≡ signed negative ((2 * n + d) / (2 * d))
unfolding rounded
rounded-signed false n d some = rw (not_negative n) refl
rounded-signed true zero d some = rw (none_of_zero d some)
rounded-signed true (suc n) d some = refl
