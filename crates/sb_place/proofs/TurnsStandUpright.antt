-- One turn within another has upright axes.
use Rattle.std.proofs.Common.{IsTrue}
use Rattle.theory_turns.specs.Turns.{Quarter, is_quarter, then_of}
use Rattle.theory_turns.proofs.SignedAxes.{upright_of_quarter, quarter_of_upright}
use Rattle.theory_turns.proofs.TurnsCompose.{then_is_upright}

pub within_is_quarter : (first second : Quarter) → IsTrue (is_quarter first.x first.z)
    → IsTrue (is_quarter second.x second.z)
    → IsTrue (is_quarter (then_of first second).x (then_of first second).z)
within_is_quarter first second inner outer =
    quarter_of_upright (then_of first second)
    (then_is_upright first second (upright_of_quarter first inner) (upright_of_quarter second outer))
