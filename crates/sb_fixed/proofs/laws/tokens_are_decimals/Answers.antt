use Rattle.sb_fixed.proofs.TokensWriteDecimals.{integers_are_decimals, reals_are_decimals, exponents_are_decimals}
use Rattle.sb_fixed.proofs.laws.tokens_are_decimals.Goals as goal

pub returns-clause-integers : goal.returns-clause-integers
returns-clause-integers c = integers_are_decimals

pub returns-clause-reals : goal.returns-clause-reals
returns-clause-reals c = reals_are_decimals

pub returns-clause-with_exponent : goal.returns-clause-with_exponent
returns-clause-with_exponent c = exponents_are_decimals
