-- Its counts are 0, so none of them has risen.
use Rattle.std.proofs.Common.{arith}
use Rattle.tests_program.proofs.steady.run_without_faults.Goals as goal

pub returns-clause-complete : goal.returns-clause-complete
returns-clause-complete c input is_input form sound =
    c.run.ensures.complete input is_input form sound
    (λ risen. omega (arith, risen)) (λ risen. omega (arith, risen))
