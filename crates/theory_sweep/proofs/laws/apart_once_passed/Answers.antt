-- The law is its lemma.
use Rattle.theory_sweep.proofs.ApartWhenPassed.{apart_when_passed}
use Rattle.theory_sweep.proofs.laws.apart_once_passed.Goals as goal

pub returns : goal.returns
returns g = record {
  apart = λ d d_is loops apart bent k es now passed.
      apart_when_passed d loops apart bent d_is k now.met passed;
}
