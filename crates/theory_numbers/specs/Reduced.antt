-- Pairs of whole numbers without a common divisor.
use Rattle.std.specs.Prelude.{ℤ, pos, unsigned_abs, ◌<ℤ◌}
use Rattle.std.specs.Int.{IsGcd}

-- no number but 1 divides both: 4 and -9 have no common divisor, 0 and 1 neither
abbrev pub HaveNoDivisor : ℤ → ℤ → Type 0
HaveNoDivisor a b = IsGcd (unsigned_abs a) (unsigned_abs b) 1

-- the fraction num/den is reduced: in lowest terms, its denominator above 0
pub record IsReduced (num den : ℤ) : Type 0 where
  pub positive : pos 0 <ℤ den
  pub no_divisor : HaveNoDivisor num den
