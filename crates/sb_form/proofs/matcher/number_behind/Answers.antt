-- Behind an opening that is not there stands no number.
use Rattle.sb_form.proofs.FormHasOneReading.{none_behind}
use Rattle.sb_form.proofs.matcher.number_behind.Goals as goal

pub returns-in-Some-clause-none : goal.returns-in-Some-clause-none
returns-in-Some-clause-none c =
    none_behind c.number.result _ _ _ c.in-Some.ensures.found c.number.ensures.none
