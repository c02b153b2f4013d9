use Rattle.sb_fixed.proofs.PrintedIsReadBack.{printed_is_read, printed_is_the_value, printed_is_real}
use Rattle.sb_fixed.proofs.laws.printed_is_read_back.Goals as goal

pub returns-clause-fraction : goal.returns-clause-fraction
returns-clause-fraction c = printed_is_read

pub returns-clause-value : goal.returns-clause-value
returns-clause-value c = printed_is_the_value

pub returns-clause-is_real : goal.returns-clause-is_real
returns-clause-is_real c = printed_is_real
