use Rattle.std.proofs.Common.{arith, lit<, lt_of_le_of_lt}
use Rattle.sb_fixed.proofs.LeadingDigits.{tens_grow}
use Rattle.sb_fixed.proofs.digits.tens.Goals as goal

pub pow-requires : goal.pow-requires
pow-requires c =
    lt_of_le_of_lt (tens_grow c.min.result 26 (omega (arith, c.min.ensures))) (lit< tt)
