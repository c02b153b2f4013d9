-- Three numbers behind their openings are read in one way.
use Rattle.sb_form.proofs.FormHasOneReading.{one_reading}
use Rattle.sb_form.proofs.matcher.three_behind.Goals as goal

pub returns-in_err-b-clause-none : goal.returns-in_err-b-clause-none
returns-in_err-b-clause-none c = rw c.from_residual-in_err-b.ensures (λ d e f rest three.
    let first = c.in_ok-a.ensures.found in
    let behind_a = one_reading _ _ d _ _ _ first.0 three.a_short first.1 three.spelled in
    c.in_err-b.ensures.none e _ three.b_short behind_a.1)

pub returns-in_err-c-clause-none : goal.returns-in_err-c-clause-none
returns-in_err-c-clause-none c = rw c.from_residual-in_err-c.ensures (λ d e f rest three.
    let first = c.in_ok-a.ensures.found in
    let behind_a = one_reading _ _ d _ _ _ first.0 three.a_short first.1 three.spelled in
    let second = c.in_ok-b.ensures.found in
    let behind_b = one_reading _ _ e _ _ _ second.0 three.b_short second.1 behind_a.1 in
    c.in_err-c.ensures.none f _ three.c_short behind_b.1)
