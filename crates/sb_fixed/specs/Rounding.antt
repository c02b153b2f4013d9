-- A fraction rounded to a whole number, halves away from zero: 5/2 to 3, -5/2 to -3, 12/5 to 2.
use Rattle.std.specs.Prelude.{◌≡◌, ◌↔◌, ℕ, ℤ, pos, ◌+◌, ◌*◌, ◌/◌, ◌^◌, ◌≤◌, ◌-ℤ◌, ◌*ℤ◌, ◌<ℤ◌}
use Rattle.std.specs.Prelude.{unsigned_abs}
use Rattle.theory_numbers.specs.Fractions.{Ratio}
use Rattle.theory_numbers.specs.Tests.{is_negative}
use Rattle.sb_fixed.specs.Decimals.{signed}

-- f times ten to the power of `places`: a number with so many places as a whole number of its last
abbrev pub scaled : ℕ → Ratio → Ratio
scaled places f = record { num = f.num *ℤ pos (10 ^ places); den = f.den }

-- f less a whole number
abbrev pub less : ℤ → Ratio → Ratio
less shift f = record { num = f.num -ℤ (shift *ℤ f.den); den = f.den }

-- 2·k - 1 is at most twice the size of f
abbrev pub IsReached : Ratio → ℕ → Type 0
IsReached f k = 2 * k * unsigned_abs f.den ≤ 2 * unsigned_abs f.num + unsigned_abs f.den

-- r has the sign of n, or is 0
pub record HasSignOf (n r : ℤ) : Type 0 where
  pub above : pos 0 <ℤ r → pos 0 <ℤ n
  pub below : r <ℤ pos 0 → n <ℤ pos 0

-- The whole number r is f rounded: its size is the greatest k with 2·k - 1 at most twice the size of
-- f, and it has the sign of f or is 0. So halves go away from zero.
pub record IsRounded (f : Ratio) (r : ℤ) : Type 0 where
  pub reached : IsReached f (unsigned_abs r)
  pub greatest : (k : ℕ) → IsReached f k → k ≤ unsigned_abs r
  pub sign : HasSignOf f.num r

-- this number, by one division
unfoldable pub rounded : Ratio → ℤ
rounded f =
    signed (is_negative f.num)
    ((2 * unsigned_abs f.num + unsigned_abs f.den) / (2 * unsigned_abs f.den))

-- Law

-- each fraction is rounded to one number, and that is it
abbrev pub RoundedIsTheOne : Type 0
RoundedIsTheOne = (f : Ratio) (r : ℤ) → pos 0 <ℤ f.den → IsRounded f r ↔ (r ≡ rounded f)
