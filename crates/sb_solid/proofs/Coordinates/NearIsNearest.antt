-- No whole millimetre but the nearest one is near.
use Rattle.std.proofs.Common.{◌≡◌, ℕ, ℤ, pos, ◌+◌, ◌*◌, ◌/◌, ◌≤◌, ◌<◌, Bool, true, false, arith, refl}
use Rattle.std.specs.Prelude.{neg_ℤ, ◌-ℤ◌, ◌*ℤ◌, ◌≤ℤ◌, ◌<ℤ◌, unsigned_abs, int_lt, if◌then◌else◌}
use Rattle.std.proofs.lemmas.Int.{ints}
use Rattle.std.proofs.lemmas.Bool.{leb-true}
use Rattle.theory_numbers.proofs.Signs.{less_from, not_less_from}
use Rattle.sb_solid.specs.Grid.{NearIsNearest}

-- the quotient of a number by a million
quotient : (n : ℕ) → (1000000 * (n / 1000000) ≤ n) × (n < 1000000 * (n / 1000000) + 1000000)
quotient n = (omega arith, omega arith)

below : (nm mm : ℤ) → nm <ℤ pos 0 → unsigned_abs (nm -ℤ (mm *ℤ pos 1000000)) ≤ 10000
    → mm ≡ neg_ℤ (pos ((unsigned_abs nm + 500000) / 1000000))
below nm mm less near =
    let q = quotient (unsigned_abs nm + 500000) in
    omega (arith, ints, less, near, q.0, q.1)

above : (nm mm : ℤ) → pos 0 ≤ℤ nm → unsigned_abs (nm -ℤ (mm *ℤ pos 1000000)) ≤ 10000
    → mm ≡ pos ((unsigned_abs nm + 500000) / 1000000)
above nm mm least near =
    let q = quotient (unsigned_abs nm + 500000) in
    omega (arith, ints, least, near, q.0, q.1)

pub near_is_nearest : NearIsNearest
near_is_nearest nm mm near = by (int_lt nm (pos 0)) refl
  where
    close : unsigned_abs (nm -ℤ (mm *ℤ pos 1000000)) ≤ 10000
    close = leb-true _ _ near

    by : (b : Bool) → int_lt nm (pos 0) ≡ b
        → mm ≡ (if b then neg_ℤ (pos ((unsigned_abs nm + 500000) / 1000000)) else pos ((unsigned_abs nm + 500000) / 1000000))
    by true less = below nm mm (less_from nm (pos 0) less) close
    by false least = above nm mm (not_less_from nm (pos 0) least) close
